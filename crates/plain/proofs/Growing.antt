-- Symbols with the marks of a writable list have a derivation with its meaning. Assumes nothing.
use Prim.Native.Nat.{ℕ}
use mathlib.Core.Path.{◌≡◌, refl, sym, ap, ap₂, ◌∙◌}
use mathlib.Core.Bool.{Bool, true, false}
use mathlib.Core.List.{List, [], ◌∷◌}
use mathlib.Core.Option.{Option, none, some}
use Rattle.octets.specs.Believed.Choice.{pick}
use Rattle.octets.specs.Believed.Text.{bytes}
use Rattle.grammar.specs.Believed.Rfc733.{kind_number}
use Rattle.grammar.specs.Believed.Rfc733 as rfc733
use Rattle.grammar.specs.Executable.Trees733.{Class, Atom, Quoted, At, LessThan, GreaterThan, Comma, Semicolon, Colon, Lexeme, Sym, of, atom_word, quoted_word, Phrase, one, more, Nodes, first, next, Slot, comma, AddressList, idle, full}
use Rattle.grammar.proofs.Rfc733.Trees.{word_symbol, phrase_then, name_then, nodes_then, slot_then, list_then, address_then, house_rule, slot_lawful, list_lawful, address_lawful, list_levels, DerivedTree}
use Rattle.grammar.specs.Executable.Trees733 as trees
use Rattle.grammar.proofs.Rfc733.HouseRule.{slot_atom_group, list_atom_group, atom_colon_list}
use Rattle.plain.specs.Believed.Meaning.{Word, atom, quoted_string, Words, no_word, and_word, Addresses, no_address, and_address, Address, address}
use Rattle.plain.specs.Believed.PlainText.{atom_group, first_atom_group}
use Rattle.plain.proofs.TreeMeanings.{word_meaning, phrase_meaning, name_meaning, nodes_meaning, slot_meaning, list_meaning, address_meaning, typed_meaning, atom_group_lem, addresses_depth, list_depth}
use Rattle.plain.proofs.Writable.{WritablePhrase, WritableList, empty, also, WritableAddress, mailbox, angle, group, quoted, typed, list_of, address_of, Mark, mark, marks, word_marks, phrase_marks, at_mark, nodes_marks, comma_mark, gap_marks, list_marks, address_marks}

-- ---- the first symbol

record Popped (c : Class) (bs : List ℕ) (xs : List Sym) (ms : List Mark) : Type 0 where
  lexeme : Lexeme
  rest : List Sym
  is : xs ≡ of c lexeme ∷ rest
  text : lexeme.meaning ≡ bs
  left : marks rest ≡ ms

pop : (c : Class) (bs : List ℕ) (xs : List Sym) (ms : List Mark) → marks xs ≡ mark c bs ∷ ms → Popped c bs xs ms
pop c bs [] ms e = absurd cc
pop c bs (x ∷ xs) ms e =
    let q : x.class ≡ c = cc in
    record { lexeme = x.lexeme; rest = xs; is = ap (λ d. of d x.lexeme ∷ xs) q; text = cc; left = cc }

-- ---- words

record GrownWord (w : Word) (xs : List Sym) (ms : List Mark) : Type 0 where
  tree : trees.Word
  rest : List Sym
  is : xs ≡ word_symbol tree ∷ rest
  left : marks rest ≡ ms
  means : word_meaning tree ≡ w

grow_word : (w : Word) (xs : List Sym) (ms : List Mark) → marks xs ≡ word_marks w ms → GrownWord w xs ms
grow_word (atom bs) xs ms e = let g = pop Atom bs xs ms e in record { tree = atom_word g.lexeme; rest = g.rest; is = g.is; left = g.left; means = ap atom g.text }
grow_word (quoted_string bs) xs ms e =
    let g = pop Quoted bs xs ms e in record { tree = quoted_word g.lexeme; rest = g.rest; is = g.is; left = g.left; means = ap quoted_string g.text }

record GrownPhrase (ws : Words) (xs : List Sym) (ms : List Mark) : Type 0 where
  tree : Phrase
  rest : List Sym
  is : xs ≡ phrase_then tree rest
  left : marks rest ≡ ms
  means : phrase_meaning tree ≡ ws

grow_phrase : (before : Words) (w : Word) (xs : List Sym) (ms : List Mark) → marks xs ≡ phrase_marks (and_word before w) ms → GrownPhrase (and_word before w) xs ms
grow_phrase no_word w xs ms e = let g = grow_word w xs ms e in record { tree = one g.tree; rest = g.rest; is = g.is; left = g.left; means = ap (and_word no_word) g.means }
grow_phrase (and_word before v) w xs ms e =
    let g = grow_phrase before v xs (word_marks w ms) e in
    let h = grow_word w g.rest ms g.left in
    record { tree = more g.tree h.tree; rest = h.rest; is = g.is ∙ ap (phrase_then g.tree) h.is; left = h.left; means = ap₂ and_word g.means h.means }

some_phrase : (ws : Words) (xs : List Sym) (ms : List Mark) → WritablePhrase ws → marks xs ≡ phrase_marks ws ms → GrownPhrase ws xs ms
some_phrase no_word xs ms f e = absurd f
some_phrase (and_word before w) xs ms f e = grow_phrase before w xs ms e

record GrownNodes (ws : Words) (xs : List Sym) (ms : List Mark) : Type 0 where
  tree : Nodes
  rest : List Sym
  is : xs ≡ nodes_then tree rest
  left : marks rest ≡ ms
  means : nodes_meaning tree ≡ ws

grow_nodes : (before : Words) (w : Word) (xs : List Sym) (ms : List Mark) → marks xs ≡ nodes_marks (and_word before w) ms → GrownNodes (and_word before w) xs ms
grow_nodes no_word w xs ms e =
    let t = pop At (bytes "at") xs (word_marks w ms) e in
    let g = grow_word w t.rest ms t.left in
    record { tree = first t.lexeme g.tree; rest = g.rest; is = t.is ∙ ap (λ l. of At t.lexeme ∷ l) g.is; left = g.left; means = ap (and_word no_word) g.means }
grow_nodes (and_word before v) w xs ms e =
    let g = grow_nodes before v xs (at_mark ∷ word_marks w ms) e in
    let t = pop At (bytes "at") g.rest (word_marks w ms) g.left in
    let h = grow_word w t.rest ms t.left in
    record {
      tree = next g.tree t.lexeme h.tree;
      rest = h.rest;
      is = g.is ∙ ap (nodes_then g.tree) (t.is ∙ ap (λ l. of At t.lexeme ∷ l) h.is);
      left = h.left;
      means = ap₂ and_word g.means h.means;
    }

some_nodes : (ws : Words) (xs : List Sym) (ms : List Mark) → WritablePhrase ws → marks xs ≡ nodes_marks ws ms → GrownNodes ws xs ms
some_nodes no_word xs ms f e = absurd f
some_nodes (and_word before w) xs ms f e = grow_nodes before w xs ms e

record GrownName (ws : Words) (xs : List Sym) (ms : List Mark) : Type 0 where
  tree : Option Phrase
  rest : List Sym
  is : xs ≡ name_then tree rest
  left : marks rest ≡ ms
  means : name_meaning tree ≡ ws

grow_name : (ws : Words) (xs : List Sym) (ms : List Mark) → marks xs ≡ phrase_marks ws ms → GrownName ws xs ms
grow_name no_word xs ms e = record { tree = none; rest = xs; is = refl; left = e; means = refl }
grow_name (and_word before w) xs ms e =
    let g = grow_phrase before w xs ms e in record { tree = some g.tree; rest = g.rest; is = g.is; left = g.left; means = g.means }

-- ---- lists and addresses

-- the comma of a nameless group whose list must not begin with an atom and ":"
record GrownGap (name : Words) (l : Addresses) (xs : List Sym) (ms : List Mark) : Type 0 where
  lead : Slot
  rest : List Sym
  is : xs ≡ slot_then lead rest
  left : marks rest ≡ ms
  means : slot_meaning lead ≡ no_address
  lawful : slot_lawful lead
  shut : name ≡ no_word → slot_atom_group lead (first_atom_group l) ≡ false

no_lead : (name : Words) (l : Addresses) (xs : List Sym) (ms : List Mark) → marks xs ≡ ms → (name ≡ no_word → first_atom_group l ≡ false) → GrownGap name l xs ms
no_lead name l xs ms e h = record { lead = trees.empty; rest = xs; is = refl; left = e; means = refl; lawful = tt; shut = h }

pick_lead : (x : Bool) (l : Addresses) (xs : List Sym) (ms : List Mark) → first_atom_group l ≡ x → marks xs ≡ pick x (comma_mark ∷ ms) ms → GrownGap no_word l xs ms
pick_lead false l xs ms h e = no_lead no_word l xs ms e (λ z. h)
pick_lead true l xs ms h e =
    let t = pop Comma (bytes ",") xs ms e in
    record { lead = comma (idle trees.empty) t.lexeme; rest = t.rest; is = t.is; left = t.left; means = refl; lawful = tt; shut = λ z. refl }

grow_gap : (name : Words) (l : Addresses) (xs : List Sym) (ms : List Mark) → marks xs ≡ gap_marks name l ms → GrownGap name l xs ms
grow_gap no_word no_address xs ms e = no_lead no_word no_address xs ms e (λ z. refl)
grow_gap (and_word before w) no_address xs ms e = no_lead (and_word before w) no_address xs ms e (λ z. refl)
grow_gap no_word (and_address l a) xs ms e = pick_lead (first_atom_group (and_address l a)) (and_address l a) xs ms refl e
grow_gap (and_word before w) (and_address l a) xs ms e = no_lead (and_word before w) (and_address l a) xs ms e (λ z. absurd cc)

record GrownList (l : Addresses) (r : Slot) (xs : List Sym) (ms : List Mark) : Type 0 where
  tree : AddressList
  rest : List Sym
  is : slot_then r xs ≡ list_then tree rest
  left : marks rest ≡ ms
  means : list_meaning tree ≡ l
  lawful : list_lawful tree
  leading : list_atom_group tree ≡ slot_atom_group r (first_atom_group l)

record GrownAddress (a : Address) (xs : List Sym) (ms : List Mark) : Type 0 where
  tree : trees.Address
  rest : List Sym
  is : xs ≡ address_then tree rest
  left : marks rest ≡ ms
  means : address_meaning tree ≡ a
  lawful : address_lawful tree

-- a place and an address
grow_first : (a : Address) (r : Slot) (xs : List Sym) (ms : List Mark) → slot_meaning r ≡ no_address → slot_lawful r → GrownAddress a xs ms → GrownList (and_address no_address a) r xs ms
grow_first a r xs ms e o g =
    record {
      tree = full r g.tree;
      rest = g.rest;
      is = ap (slot_then r) g.is;
      left = g.left;
      means = ap₂ and_address e g.means;
      lawful = (o, g.lawful);
      leading = ap (slot_atom_group r) (atom_group_lem g.tree ∙ ap atom_group g.means);
    }

-- the comma after a list
grow_next : (a : Address) (l : Addresses) (b : Address) (r : Slot) (xs : List Sym) (ms ns : List Mark) → (g : GrownList (and_address l b) r xs (comma_mark ∷ ms)) → (t : Popped Comma (bytes ",") g.rest ms)
    → GrownAddress a t.rest ns → GrownList (and_address (and_address l b) a) r xs ns
grow_next a l b r xs ms ns g t h =
    record {
      tree = full (comma g.tree t.lexeme) h.tree;
      rest = h.rest;
      is = g.is ∙ ap (list_then g.tree) (t.is ∙ ap (λ s. of Comma t.lexeme ∷ s) h.is);
      left = h.left;
      means = ap₂ and_address g.means h.means;
      lawful = (g.lawful, h.lawful);
      leading = g.leading;
    }

house_of : (name : Words) (o : Option Phrase) (l : AddressList) (u : Lexeme) → name_meaning o ≡ name → (name ≡ no_word → list_atom_group l ≡ false) → house_rule o (list_then l (of Semicolon u ∷ []))
house_of name none l u e h = atom_colon_list l (of Semicolon u ∷ []) refl ∙ h (sym e)
house_of name (some p) l u e h = tt

angle_grown : {name : Words} {l : Addresses} {xs : List Sym} {ms ns ps qs : List Mark} (g : GrownName name xs ns) (t : Popped LessThan (bytes "<") g.rest ps)
    (h : GrownList l trees.empty t.rest qs) (u : Popped GreaterThan (bytes ">") h.rest ms) → GrownAddress (address (kind_number rfc733.angle_list) name no_word l) xs ms
angle_grown g t h u =
    record {
      tree = trees.angle g.tree t.lexeme h.tree u.lexeme;
      rest = u.rest;
      is = g.is ∙ ap (name_then g.tree) (t.is ∙ ap (λ s. of LessThan t.lexeme ∷ s) (h.is ∙ ap (list_then h.tree) u.is));
      left = u.left;
      means = ap₂ (λ p m. address (kind_number rfc733.angle_list) p no_word m) g.means h.means;
      lawful = h.lawful;
    }

group_grown : {name : Words} {l : Addresses} {xs : List Sym} {ms ns ps qs rs : List Mark} (g : GrownName name xs ns) (t : Popped Colon (bytes ":") g.rest ps) (c : GrownGap name l t.rest qs)
    (h : GrownList l c.lead c.rest rs) (u : Popped Semicolon (bytes ";") h.rest ms) → GrownAddress (address (kind_number rfc733.group) name no_word l) xs ms
group_grown {name} g t c h u =
    record {
      tree = trees.group g.tree t.lexeme h.tree u.lexeme;
      rest = u.rest;
      is = g.is ∙ ap (name_then g.tree) (t.is ∙ ap (λ s. of Colon t.lexeme ∷ s) (c.is ∙ h.is ∙ ap (list_then h.tree) u.is));
      left = u.left;
      means = ap₂ (λ p m. address (kind_number rfc733.group) p no_word m) g.means h.means;
      lawful = (h.lawful, house_of name g.tree h.tree u.lexeme g.means (λ z. h.leading ∙ c.shut z));
    }

typed_grown : {letters : List ℕ} {a : Address} {xs : List Sym} {ms ns ps qs : List Mark} (t : Popped Colon (bytes ":") xs ns) (v : Popped Atom letters t.rest ps)
    (u : Popped Colon (bytes ":") v.rest qs) (h : GrownAddress a u.rest ms) → GrownAddress (typed_meaning letters a) xs ms
typed_grown t v u h =
    record {
      tree = trees.typed t.lexeme v.lexeme u.lexeme h.tree;
      rest = h.rest;
      is = t.is ∙ ap (λ s. of Colon t.lexeme ∷ s) (v.is ∙ ap (λ s. of Atom v.lexeme ∷ s) (u.is ∙ ap (λ s. of Colon u.lexeme ∷ s) h.is));
      left = h.left;
      means = ap₂ typed_meaning v.text h.means;
      lawful = h.lawful;
    }

mutual
  grow_list : (l : WritableList) (r : Slot) (xs : List Sym) (ms : List Mark) → slot_meaning r ≡ no_address → slot_lawful r → marks xs ≡ list_marks l ms → GrownList (list_of l) r xs ms
  grow_list empty r xs ms e o q = record { tree = idle r; rest = xs; is = refl; left = q; means = e; lawful = o; leading = refl }
  grow_list (also empty a) r xs ms e o q = grow_first (address_of a) r xs ms e o (grow_address a xs ms q)
  grow_list (also (also l b) a) r xs ms e o q =
      let g = grow_list (also l b) r xs (comma_mark ∷ address_marks a ms) e o q in
      let t = pop Comma (bytes ",") g.rest (address_marks a ms) g.left in
      grow_next (address_of a) (list_of l) (address_of b) r xs (address_marks a ms) ms g t (grow_address a t.rest ms t.left)

  grow_address : (a : WritableAddress) (xs : List Sym) (ms : List Mark) → marks xs ≡ address_marks a ms → GrownAddress (address_of a) xs ms
  grow_address (mailbox name nodes w v) xs ms e =
      let g = some_phrase name xs (nodes_marks nodes ms) w e in
      let h = some_nodes nodes g.rest ms v g.left in
      record {
        tree = trees.mailbox g.tree h.tree;
        rest = h.rest;
        is = g.is ∙ ap (phrase_then g.tree) h.is;
        left = h.left;
        means = ap₂ (λ p m. address (kind_number rfc733.mailbox) p m no_address) g.means h.means;
        lawful = tt;
      }
  grow_address (angle name w l) xs ms e =
      let g = grow_name name xs _ e in
      let t = pop LessThan (bytes "<") g.rest _ g.left in
      let h = grow_list l trees.empty t.rest (mark GreaterThan (bytes ">") ∷ ms) refl tt t.left in
      angle_grown g t h (pop GreaterThan (bytes ">") h.rest ms h.left)
  grow_address (group name w l) xs ms e =
      let g = grow_name name xs _ e in
      let t = pop Colon (bytes ":") g.rest _ g.left in
      let c = grow_gap name (list_of l) t.rest (list_marks l (mark Semicolon (bytes ";") ∷ ms)) t.left in
      let h = grow_list l c.lead c.rest (mark Semicolon (bytes ";") ∷ ms) c.means c.lawful c.left in
      group_grown g t c h (pop Semicolon (bytes ";") h.rest ms h.left)
  grow_address (quoted content w) xs ms e =
      let g = pop Quoted content xs ms e in
      record {
        tree = trees.quoted g.lexeme;
        rest = g.rest;
        is = g.is;
        left = g.left;
        means = ap (λ c. address (kind_number rfc733.quoted) (and_word no_word (quoted_string c)) no_word no_address) g.text;
        lawful = tt;
      }
  grow_address (typed letters w a) xs ms e =
      let t = pop Colon (bytes ":") xs _ e in
      let v = pop Atom letters t.rest _ t.left in
      let u = pop Colon (bytes ":") v.rest _ v.left in
      typed_grown t v u (grow_address a u.rest ms u.left)

no_marks : (xs : List Sym) → marks xs ≡ [] → xs ≡ []
no_marks [] e = refl
no_marks (x ∷ xs) e = absurd cc

-- a derivation of the symbols with the meaning and its levels
pub grown : (l : WritableList) (xs : List Sym) → marks xs ≡ list_marks l [] → (t : AddressList) × DerivedTree t xs × (list_meaning t ≡ list_of l) × (list_levels t ≡ addresses_depth (list_of l))
grown l xs e =
    let g = grow_list l trees.empty xs [] refl tt e in
    (g.tree, record { yields = sym (g.is ∙ ap (list_then g.tree) (no_marks g.rest g.left)); lawful = g.lawful }, g.means, list_depth g.tree ∙ ap addresses_depth g.means)
