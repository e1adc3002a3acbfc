-- The words among the symbols of any text are writable, and so is the meaning of a derivation of them. Assumes nothing.
use Prim.Native.Nat.{ℕ, zero, suc, ◌+◌}
use mathlib.Core.Path.{◌≡◌, refl, ap, ap₂}
use mathlib.Core.Bool.{Bool, true, false}
use mathlib.Core.List.{List, [], ◌∷◌, ◌++◌}
use mathlib.Core.Option.{Option, none, some}
use mathlib.Core.Logic.{◌⊎◌, inl, inr, ⊎_elim}
use borrow.Author.Tests.{eqb-true}
use lib.Dec.{eqb}
use lib.ListN.{get_or}
use Rattle.octets.specs.Believed.Choice.{pick}
use Rattle.octets.specs.Believed.Classes.{class_of, class_table, letter, white}
use Rattle.octets.specs.Believed.Classes as classes
use Rattle.octets.specs.Believed.Letters.{same_letters}
use Rattle.octets.specs.Believed.Text.{bytes, crlf_at}
use Rattle.octets.proofs.ChoiceLaws.{both_parts, either_parts}
use Rattle.scanner.specs.Believed.Kinds.{kind_of_class, kind_of, character_kind}
use Rattle.scanner.specs.Believed.Characters.{Character, character, fold_at, InFold, line_feed, characters_from, characters_at}
use Rattle.scanner.specs.Believed.Characters as characters
use Rattle.scanner.specs.Believed.Scanning.{Scanned, next, fault_at, State, outside, in_atom, in_quoted, taking_in_quoted, in_literal, taking_in_literal, in_comment, taking_in_comment, Move, go, halt, atom_class, move_outside, ending_with, move_in_atom, move_in_quoted, closed, move_in_comment, take, taken_data, move, at_end, followed_by, then, scan_from, scan, symbols_of, parted, ended}
use Rattle.scanner.specs.Believed.Scanning as scanning
use Rattle.scanner.proofs.MoveLaws.{tag}
use Rattle.grammar.specs.Executable.Trees733.{Class, Atom, Quoted, At, LessThan, GreaterThan, Comma, Semicolon, Colon, Stray, Dot, Literal, Sym, of, atom_word, quoted_word, Phrase, one, more, Nodes, first, Slot, comma, AddressList, idle, full}
use Rattle.grammar.proofs.Rfc733.Trees.{word_symbol, phrase_then, name_then, nodes_then, slot_then, list_then, address_then}
use Rattle.grammar.specs.Executable.Trees733 as trees
use Rattle.grammar.specs.Believed.Rfc733.{kind_number}
use Rattle.grammar.specs.Believed.Rfc733 as rfc733
use Rattle.plain.specs.Believed.Meaning.{no_word, Addresses, and_address, Address, address}
use Rattle.plain.proofs.TreeMeanings.{word_meaning, phrase_meaning, name_meaning, nodes_meaning, slot_meaning, list_meaning, address_meaning, typed_meaning}
use Rattle.plain.proofs.ByteKinds.{KindView, is_white, is_control, is_return, is_plain, is_open, is_close, is_less, is_greater, is_at, is_comma, is_semicolon, is_colon, is_backslash, is_quote, is_above, byte_view, IsPlain, IsDatum, above_tag, datum}
use Rattle.plain.proofs.Writable.{Each, WritableAtom, WritableWord, WritableWords, WritablePhrase, WritableList, empty, also, WritableAddress, mailbox, angle, group, quoted, typed, list_of, address_of}

-- ---- symbols

abbrev pub WritableText : Class → List ℕ → Type 0
WritableText Atom bs = WritableAtom bs
WritableText Quoted bs = Each IsDatum bs
WritableText At bs = Unit {0}
WritableText LessThan bs = Unit {0}
WritableText GreaterThan bs = Unit {0}
WritableText Comma bs = Unit {0}
WritableText Semicolon bs = Unit {0}
WritableText Colon bs = Unit {0}
WritableText Stray bs = Unit {0}
WritableText Dot bs = Unit {0}
WritableText Literal bs = Unit {0}

abbrev pub WritableSymbols : List Sym → Type 0
WritableSymbols [] = Unit {0}
WritableSymbols (x ∷ xs) = WritableText x.class x.lexeme.meaning × WritableSymbols xs

-- ---- characters

-- what a character's kind tells of its byte
record Known (b : ℕ) (k : _) : Type 0 where
  view : KindView k
  plain : k ≡ kind_of_class letter → IsPlain b
  data_is : eqb (tag k) above_tag ≡ false → IsDatum b

abbrev KnownAll : List Character → Type 0
KnownAll [] = Unit {0}
KnownAll (character b p folded ∷ cs) = Known b (character_kind class_table b folded) × KnownAll cs

-- SPACE and HTAB
white_byte : (b : ℕ) → (b ≡ 32) ⊎ (b ≡ 9) → Known b (kind_of_class white)
unfolding kind_of class_table class_of
white_byte b (inl e) = record { view = is_white; plain = λ q. absurd cc; data_is = λ q. rw e tt }
white_byte b (inr e) = record { view = is_white; plain = λ q. absurd cc; data_is = λ q. rw e tt }

white_known : (b : ℕ) → classes.is_white b ≡ true → Known b (kind_of_class white)
white_known b e = white_byte b (⊎_elim (λ z. inl (eqb-true _ _ z)) (λ z. inr (eqb-true _ _ z)) (either_parts (eqb b 32) (eqb b 9) e))

-- in a fold its white space is still to come
abbrev Folding : InFold → List ℕ → Type 0
Folding characters.none l = Unit {0}
Folding line_feed l = classes.is_white (get_or l 1 0) ≡ true
Folding characters.white l = classes.is_white (get_or l 0 0) ≡ true

-- a byte that may start a fold
known_next : (x : Bool) (b : ℕ) (r : List ℕ) (p : ℕ) → fold_at (b ∷ r) 0 ≡ x → (Folding line_feed r → KnownAll (characters_from line_feed r (p + 1))) → KnownAll (characters_from characters.none r (p + 1))
    → KnownAll (elim x [ true ↦ characters_from line_feed r (p + 1) | false ↦ character b p false ∷ characters_from characters.none r (p + 1) ])
known_next true b r p e f g = f (both_parts (crlf_at (b ∷ r) 0) _ e).1
known_next false b r p e f g = (record { view = byte_view b; plain = λ q. q; data_is = λ q. datum b q }, g)

known : (fold : InFold) (l : List ℕ) (p : ℕ) → Folding fold l → KnownAll (characters_from fold l p)
unfolding characters_from
known characters.none [] p h = tt
known line_feed [] p h = tt
known characters.white [] p h = tt
known line_feed (b ∷ r) p h = known characters.white r (p + 1) h
known characters.white (b ∷ r) p h = (white_known b h, known characters.none r (p + 1) tt)
known characters.none (b ∷ r) p h = known_next (fold_at (b ∷ r) 0) b r p refl (λ q. known line_feed r (p + 1) q) (known characters.none r (p + 1) tt)

-- ---- the machine

abbrev Begun : List ℕ → Type 0
Begun [] = ⊥
Begun (b ∷ bs) = IsPlain b × Each IsPlain bs

-- words that are being read; RFC 733 has no literal
abbrev GoodState : State → Type 0
GoodState outside = Unit {0}
GoodState (in_atom s e t) = Begun t
GoodState (in_quoted s t) = Each IsDatum t
GoodState (taking_in_quoted s t) = Each IsDatum t
GoodState (in_literal s) = ⊥
GoodState (taking_in_literal s) = ⊥
GoodState (in_comment d s) = Unit {0}
GoodState (taking_in_comment d s) = Unit {0}

abbrev GoodMove : Move → Type 0
GoodMove (go xs state) = WritableSymbols xs × GoodState state
GoodMove (halt xs n p) = WritableSymbols xs

abbrev GoodScan : Scanned → Type 0
GoodScan s = WritableSymbols (symbols_of s)

each_both : (P : ℕ → Type 0) (t u : List ℕ) → Each P t → Each P u → Each P (t ++ u)
each_both P [] u e h = h
each_both P (c ∷ t) u e h = (e.0, each_both P t u e.1 h)

each_and : (P : ℕ → Type 0) (t : List ℕ) (b : ℕ) → Each P t → P b → Each P (t ++ (b ∷ []))
each_and P t b e h = each_both P t (b ∷ []) e (h, tt)

-- what a backslash takes is data
taken_data_lem : (b : ℕ) (folded : Bool) → IsDatum b → Each IsDatum (taken_data b folded)
unfolding taken_data kind_of class_of class_table
taken_data_lem b true h = (tt, (tt, (h, tt)))
taken_data_lem b false h = (h, tt)

begun_and : (t : List ℕ) (b : ℕ) → Begun t → IsPlain b → Begun (t ++ (b ∷ []))
begun_and [] b e h = absurd e
begun_and (c ∷ t) b e h = (e.0, each_and IsPlain t b e.1 h)

good_spelled : (x : Bool) (t : List ℕ) → same_letters t (bytes "at") ≡ x → Begun t → WritableText (pick x At Atom) t
good_spelled true t e h = tt
good_spelled false [] e h = h
good_spelled false (b ∷ t) e h = (h.0, h.1, e)

good_atom : (t : List ℕ) → Begun t → WritableText (atom_class t) t
good_atom t h = good_spelled (same_letters t (bytes "at")) t refl h

good_outside : {k : _} (v : KindView k) (b p : ℕ) → (k ≡ kind_of_class letter → IsPlain b) → GoodMove (move_outside k b p)
unfolding kind_of
good_outside is_white b p e = (tt, tt)
good_outside is_control b p e = tt
good_outside is_return b p e = tt
good_outside is_plain b p e = (tt, (e refl, tt))
good_outside is_open b p e = (tt, tt)
good_outside is_close b p e = ((tt, tt), tt)
good_outside is_less b p e = ((tt, tt), tt)
good_outside is_greater b p e = ((tt, tt), tt)
good_outside is_at b p e = ((tt, tt), tt)
good_outside is_comma b p e = ((tt, tt), tt)
good_outside is_semicolon b p e = ((tt, tt), tt)
good_outside is_colon b p e = ((tt, tt), tt)
good_outside is_backslash b p e = ((tt, tt), tt)
good_outside is_quote b p e = (tt, tt)
good_outside is_above b p e = tt

good_ending : (x : Sym) (m : Move) → WritableText x.class x.lexeme.meaning → GoodMove m → GoodMove (ending_with x m)
good_ending x (go xs state) g h = ((g, h.0), h.1)
good_ending x (halt xs n p) g h = (g, h)

good_in_atom : {k : _} (v : KindView k) (s e : ℕ) (t : List ℕ) (b p : ℕ) → (k ≡ kind_of_class letter → IsPlain b) → Begun t → GoodMove (ending_with (scanning.atom s e t) (move_outside k b p))
    → GoodMove (move_in_atom k s e t b p)
unfolding kind_of
good_in_atom is_white s e t b p q h m = m
good_in_atom is_control s e t b p q h m = m
good_in_atom is_return s e t b p q h m = m
good_in_atom is_plain s e t b p q h m = (tt, begun_and t b h (q refl))
good_in_atom is_open s e t b p q h m = m
good_in_atom is_close s e t b p q h m = m
good_in_atom is_less s e t b p q h m = m
good_in_atom is_greater s e t b p q h m = m
good_in_atom is_at s e t b p q h m = m
good_in_atom is_comma s e t b p q h m = m
good_in_atom is_semicolon s e t b p q h m = m
good_in_atom is_colon s e t b p q h m = m
good_in_atom is_backslash s e t b p q h m = m
good_in_atom is_quote s e t b p q h m = m
good_in_atom is_above s e t b p q h m = m

good_in_quoted : {k : _} (v : KindView k) (s : ℕ) (t : List ℕ) (b p : ℕ) → (eqb (tag k) above_tag ≡ false → IsDatum b) → Each IsDatum t → GoodMove (move_in_quoted k s t b p)
unfolding kind_of
good_in_quoted is_white s t b p q h = (tt, each_and IsDatum t b h (q refl))
good_in_quoted is_control s t b p q h = (tt, each_and IsDatum t b h (q refl))
good_in_quoted is_return s t b p q h = tt
good_in_quoted is_plain s t b p q h = (tt, each_and IsDatum t b h (q refl))
good_in_quoted is_open s t b p q h = (tt, each_and IsDatum t b h (q refl))
good_in_quoted is_close s t b p q h = (tt, each_and IsDatum t b h (q refl))
good_in_quoted is_less s t b p q h = (tt, each_and IsDatum t b h (q refl))
good_in_quoted is_greater s t b p q h = (tt, each_and IsDatum t b h (q refl))
good_in_quoted is_at s t b p q h = (tt, each_and IsDatum t b h (q refl))
good_in_quoted is_comma s t b p q h = (tt, each_and IsDatum t b h (q refl))
good_in_quoted is_semicolon s t b p q h = (tt, each_and IsDatum t b h (q refl))
good_in_quoted is_colon s t b p q h = (tt, each_and IsDatum t b h (q refl))
good_in_quoted is_backslash s t b p q h = (tt, h)
good_in_quoted is_quote s t b p q h = ((h, tt), tt)
good_in_quoted is_above s t b p q h = tt

good_taken : {k : _} (v : KindView k) (state : State) (p : ℕ) → (eqb (tag k) above_tag ≡ false → GoodState state) → GoodMove (take k state p)
unfolding kind_of
good_taken is_white state p q = (tt, q refl)
good_taken is_control state p q = (tt, q refl)
good_taken is_return state p q = (tt, q refl)
good_taken is_plain state p q = (tt, q refl)
good_taken is_open state p q = (tt, q refl)
good_taken is_close state p q = (tt, q refl)
good_taken is_less state p q = (tt, q refl)
good_taken is_greater state p q = (tt, q refl)
good_taken is_at state p q = (tt, q refl)
good_taken is_comma state p q = (tt, q refl)
good_taken is_semicolon state p q = (tt, q refl)
good_taken is_colon state p q = (tt, q refl)
good_taken is_backslash state p q = (tt, q refl)
good_taken is_quote state p q = (tt, q refl)
good_taken is_above state p q = tt

good_closed : (d s : ℕ) → GoodState (closed d s)
good_closed zero s = tt
good_closed (suc d) s = tt

good_in_comment : {k : _} (v : KindView k) (d s p : ℕ) → GoodMove (move_in_comment k d s p)
unfolding kind_of
good_in_comment is_white d s p = (tt, tt)
good_in_comment is_control d s p = (tt, tt)
good_in_comment is_return d s p = tt
good_in_comment is_plain d s p = (tt, tt)
good_in_comment is_open d s p = (tt, tt)
good_in_comment is_close d s p = (tt, good_closed d s)
good_in_comment is_less d s p = (tt, tt)
good_in_comment is_greater d s p = (tt, tt)
good_in_comment is_at d s p = (tt, tt)
good_in_comment is_comma d s p = (tt, tt)
good_in_comment is_semicolon d s p = (tt, tt)
good_in_comment is_colon d s p = (tt, tt)
good_in_comment is_backslash d s p = (tt, tt)
good_in_comment is_quote d s p = (tt, tt)
good_in_comment is_above d s p = tt

good_move : (state : State) {k : _} (b p : ℕ) (folded : Bool) → Known b k → GoodState state → GoodMove (move state k b p folded)
good_move outside b p folded w h = good_outside w.view b p w.plain
good_move (in_atom s e t) {k} b p folded w h =
    good_in_atom w.view s e t b p w.plain h (good_ending (scanning.atom s e t) (move_outside k b p) (good_atom t h) (good_outside w.view b p w.plain))
good_move (in_quoted s t) b p folded w h = good_in_quoted w.view s t b p w.data_is h
good_move (taking_in_quoted s t) b p folded w h = good_taken w.view (in_quoted s (t ++ taken_data b folded)) p (λ z. each_both IsDatum t (taken_data b folded) h (taken_data_lem b folded (w.data_is z)))
good_move (in_literal s) b p folded w h = absurd h
good_move (taking_in_literal s) b p folded w h = absurd h
good_move (in_comment d s) b p folded w h = good_in_comment w.view d s p
good_move (taking_in_comment d s) b p folded w h = good_taken w.view (in_comment d s) p (λ z. tt)

good_followed : (xs : List Sym) (r : Scanned) → WritableSymbols xs → GoodScan r → GoodScan (followed_by xs r)
unfolding symbols_of
good_followed [] r g h = h
good_followed (x ∷ xs) r g h = (g.0, good_followed xs r g.1 h)

good_then : (m : Move) (f : State → Scanned) → GoodMove m → ((state : State) → GoodState state → GoodScan (f state)) → GoodScan (then m f)
unfolding symbols_of
good_then (go xs state) f g h = good_followed xs (f state) g.0 (h state g.1)
good_then (halt xs n p) f g h = good_followed xs (fault_at n p) g tt

good_end : (state : State) → GoodState state → GoodScan (at_end state)
unfolding symbols_of
good_end outside h = tt
good_end (in_atom s e t) h = (good_atom t h, tt)
good_end (in_quoted s t) h = tt
good_end (taking_in_quoted s t) h = tt
good_end (in_literal s) h = absurd h
good_end (taking_in_literal s) h = absurd h
good_end (in_comment d s) h = tt
good_end (taking_in_comment d s) h = tt

good_from : (cs : List Character) (state : State) → KnownAll cs → GoodState state → GoodScan (scan_from class_table cs state)
unfolding scan_from
good_from [] state q h = good_end state h
good_from (character b p folded ∷ cs) state q h =
    good_then (move state (character_kind class_table b folded) b p folded) (λ state'. scan_from class_table cs state') (good_move state b p folded q.0 h) (λ state' h'. good_from cs state' q.1 h')

good_parted : (from : ℕ) (s : Scanned) → GoodScan s → GoodScan (parted from s)
unfolding parted symbols_of
good_parted from ended h = h
good_parted from (next x rest) h = (h.0, good_parted x.lexeme.end rest h.1)
good_parted from (fault_at n p) h = h

-- the symbols of a text from a position on
pub writable_symbols : (text : List ℕ) (at : ℕ) → WritableSymbols (symbols_of (scan text at))
writable_symbols text at = good_parted at _ (good_from (characters_at text at) outside (known characters.none _ at tt) tt)

-- ---- trees

word_fine : (w : trees.Word) (xs : List Sym) → WritableSymbols (word_symbol w ∷ xs) → WritableWord (word_meaning w) × WritableSymbols xs
word_fine (atom_word t) xs g = g
word_fine (quoted_word t) xs g = g

pub phrase_fine : (p : Phrase) (xs : List Sym) → WritableSymbols (phrase_then p xs) → WritablePhrase (phrase_meaning p) × WritableWords (phrase_meaning p) × WritableSymbols xs
phrase_fine (one w) xs g = let (f, h) = word_fine w xs g in ((tt, f), (tt, f), h)
phrase_fine (more p w) xs g =
    let (e, f, h) = phrase_fine p (word_symbol w ∷ xs) g in
    let (f', h') = word_fine w xs h in
    ((f, f'), (f, f'), h')

pub name_fine : (o : Option Phrase) (xs : List Sym) → WritableSymbols (name_then o xs) → WritableWords (name_meaning o) × WritableSymbols xs
name_fine none xs g = (tt, g)
name_fine (some p) xs g = let (e, f, h) = phrase_fine p xs g in (f, h)

pub nodes_fine : (m : Nodes) (xs : List Sym) → WritableSymbols (nodes_then m xs) → WritablePhrase (nodes_meaning m) × WritableWords (nodes_meaning m) × WritableSymbols xs
nodes_fine (first t w) xs g = let (f, h) = word_fine w xs g.1 in ((tt, f), (tt, f), h)
nodes_fine (trees.next m t w) xs g =
    let (e, f, h) = nodes_fine m (of At t ∷ word_symbol w ∷ xs) g in
    let (f', h') = word_fine w xs h.1 in
    ((f, f'), (f, f'), h')

-- a writable list with the meaning of a tree, and the symbols after the tree
record FineList (m : Addresses) (xs : List Sym) : Type 0 where
  list : WritableList
  is : list_of list ≡ m
  behind : WritableSymbols xs

record FineAddress (m : Address) (xs : List Sym) : Type 0 where
  address' : WritableAddress
  is : address_of address' ≡ m
  behind : WritableSymbols xs

mutual
  place_fine : (r : Slot) (xs : List Sym) → WritableSymbols (slot_then r xs) → FineList (slot_meaning r) xs
  place_fine trees.empty xs g = record { list = empty; is = refl; behind = g }
  place_fine (comma l t) xs g = let f = list_fine l (of Comma t ∷ xs) g in record { list = f.list; is = f.is; behind = f.behind.1 }

  list_fine : (l : AddressList) (xs : List Sym) → WritableSymbols (list_then l xs) → FineList (list_meaning l) xs
  list_fine (idle r) xs g = place_fine r xs g
  list_fine (full r a) xs g =
      let f = place_fine r (address_then a xs) g in
      let h = address_fine a xs f.behind in
      record { list = also f.list h.address'; is = ap₂ and_address f.is h.is; behind = h.behind }

  address_fine : (a : trees.Address) (xs : List Sym) → WritableSymbols (address_then a xs) → FineAddress (address_meaning a) xs
  address_fine (trees.mailbox p m) xs g =
      let (e, f, h) = phrase_fine p (nodes_then m xs) g in
      let (e', f', h') = nodes_fine m xs h in
      record { address' = mailbox (phrase_meaning p) (nodes_meaning m) e e'; is = refl; behind = h' }
  address_fine (trees.angle o t l u) xs g =
      let (f, h) = name_fine o (of LessThan t ∷ list_then l (of GreaterThan u ∷ xs)) g in
      let i = list_fine l (of GreaterThan u ∷ xs) h.1 in
      record { address' = angle (name_meaning o) f i.list; is = ap (λ m. address (kind_number rfc733.angle_list) (name_meaning o) no_word m) i.is; behind = i.behind.1 }
  address_fine (trees.group o t l u) xs g =
      let (f, h) = name_fine o (of Colon t ∷ list_then l (of Semicolon u ∷ xs)) g in
      let i = list_fine l (of Semicolon u ∷ xs) h.1 in
      record { address' = group (name_meaning o) f i.list; is = ap (λ m. address (kind_number rfc733.group) (name_meaning o) no_word m) i.is; behind = i.behind.1 }
  address_fine (trees.quoted t) xs g = record { address' = quoted t.meaning g.0; is = refl; behind = g.1 }
  address_fine (trees.typed t a u b) xs g =
      let i = address_fine b xs g.1.1.1 in
      record { address' = typed a.meaning g.1.0 i.address'; is = ap (typed_meaning a.meaning) i.is; behind = i.behind }

-- the meaning of a tree of writable symbols is writable
pub writable_list : (l : AddressList) → WritableSymbols (list_then l []) → (w : WritableList) × (list_of w ≡ list_meaning l)
writable_list l g = let f = list_fine l [] g in (f.list, f.is)
