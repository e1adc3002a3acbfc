-- The plain text of a writable meaning scans without fault to the symbols that it is to have. Assumes nothing.
use Prim.Native.Nat.{ℕ, ◌+◌}
use mathlib.Core.Path.{◌≡◌, refl, sym, ap, ◌∙◌}
use mathlib.Core.Bool.{Bool, true, false}
use mathlib.Core.List.{List, [], ◌∷◌, ◌++◌, append_assoc, append-nil}
use lib.Dec.{eqb, T}
use lib.ListN.{get_or}
use mir.Val.{has_key}
use types.Run.{hit}
use Rattle.octets.specs.Believed.Choice.{pick, either}
use Rattle.octets.specs.Believed.Classes.{class_of, class_table, letter, backslash, quote}
use Rattle.octets.specs.Believed.Letters.{lower, same}
use Rattle.octets.specs.Believed.Text.{bytes}
use Rattle.octets.specs.declared.answers.Answer.TheVariants.{Accepted}
use Rattle.octets.proofs.ChoiceLaws.{both_false}
use Rattle.scanner.specs.Believed.Symbols.{Symbol}
use Rattle.scanner.specs.Believed.Kinds.{kind_of_class, kind_of}
use Rattle.scanner.specs.Believed.Characters.{fold_at, none, characters_from}
use Rattle.scanner.specs.Believed.Scanning.{Scanned, ended, next, State, outside, in_atom, in_quoted, taking_in_quoted, atom_class, taken_data, move, then, scan_from, symbols_of, parted}
use Rattle.scanner.specs.Believed.Scanning as scanning
use Rattle.scanner.specs.Believed.Answers.{unless_fault, fault_of}
use Rattle.scanner.proofs.MoveLaws.{tag, quoted_data, taken, taken_alone}
use Rattle.grammar.specs.Executable.Trees733.{Class, Atom, Quoted, LessThan, GreaterThan, Semicolon, Colon}
use Rattle.plain.specs.Believed.Meaning.{Word, atom, quoted_string, Words, no_word, and_word, Addresses, no_address, and_address}
use Rattle.plain.specs.Believed.PlainText.{needs_backslash, backslash_text, data_text, quoted_text, word_text, space_behind, phrase_text, nodes_text, first_atom_group, group_gap, comma_behind, addresses_text, address_text}
use Rattle.plain.proofs.TreeMeanings.{typed_text}
use Rattle.plain.proofs.ByteKinds.{KindView, is_white, is_control, is_return, is_plain, is_open, is_close, is_less, is_greater, is_at, is_comma, is_semicolon, is_colon, is_backslash, is_quote, is_above, data_keys, taken_keys, IsPlain, IsDatum}
use Rattle.plain.proofs.Writable.{Each, WritableAtom, WritableWord, WritableWords, WritablePhrase, WritableList, empty, also, WritableAddress, mailbox, angle, group, quoted, typed, list_of, address_of, Mark, mark, marks, word_marks, phrase_marks, at_mark, nodes_marks, comma_mark, comma_marks, gap_marks, list_marks, address_marks}

-- ---- what is scanned, without places

-- symbols with these marks, and then the end
pub data Seen : Scanned → List Mark → Type 0 where
  over : Seen ended []
  then_one : {x : Symbol Class} {rest : Scanned} {ms : List Mark} → Seen rest ms → Seen (next x rest) (mark x.class x.lexeme.meaning ∷ ms)

pub seen_faultless : {s : Scanned} {ms : List Mark} → Seen s ms → fault_of s ≡ Accepted 0
unfolding unless_fault
seen_faultless over = refl
seen_faultless (then_one v) = seen_faultless v

pub seen_marks : {s : Scanned} {ms : List Mark} → Seen s ms → marks (symbols_of s) ≡ ms
unfolding symbols_of
seen_marks over = refl
seen_marks (then_one {x = x} v) = ap (λ ms. mark x.class x.lexeme.meaning ∷ ms) (seen_marks v)

-- .. told which symbols stand apart
pub seen_parted : {s : Scanned} {ms : List Mark} (from : ℕ) → Seen s ms → Seen (parted from s) ms
unfolding parted
seen_parted from over = over
seen_parted from (then_one {x = x} v) = then_one (seen_parted x.lexeme.end v)

abbrev scan_as : List ℕ → ℕ → State → Scanned
scan_as t p state = scan_from class_table (characters_from none t p) state

-- wherever it stands, the text scans to these marks
pub record Reads (t : List ℕ) (ms : List Mark) : Type 0 where
  pub from : (p : ℕ) → Seen (scan_as t p outside) ms

-- ---- one byte

stepped : (b : ℕ) (r : List ℕ) (p : ℕ) (state : State) → fold_at (b ∷ r) 0 ≡ false
    → scan_as (b ∷ r) p state ≡ then (move state (kind_of class_table b) b p false) (λ state'. scan_as r (p + 1) state')
unfolding characters_from scan_from
stepped b r p state e = rw (e, characters_from)

as_kind : (b : ℕ) (r : List ℕ) (p : ℕ) (state : State) (k : _) → fold_at (b ∷ r) 0 ≡ false → kind_of class_table b ≡ k
    → scan_as (b ∷ r) p state ≡ then (move state k b p false) (λ state'. scan_as r (p + 1) state')
as_kind b r p state k e h = stepped b r p state e ∙ rw h

reads_nothing : Reads [] []
unfolding characters_from scan_from
reads_nothing = record { from = λ p. over }

module _ {r : List ℕ} {ms : List Mark} (R : Reads r ms) where
  reads_space : Reads (32 ∷ r) ms
  unfolding characters_from scan_from kind_of class_table class_of
  reads_space = record { from = λ p. R.from (p + 1) }

  reads_comma : Reads (44 ∷ r) (comma_mark ∷ ms)
  unfolding characters_from scan_from kind_of class_table class_of
  reads_comma = record { from = λ p. then_one (R.from (p + 1)) }

  reads_less : Reads (60 ∷ r) (mark LessThan (bytes "<") ∷ ms)
  unfolding characters_from scan_from kind_of class_table class_of
  reads_less = record { from = λ p. then_one (R.from (p + 1)) }

  reads_greater : Reads (62 ∷ r) (mark GreaterThan (bytes ">") ∷ ms)
  unfolding characters_from scan_from kind_of class_table class_of
  reads_greater = record { from = λ p. then_one (R.from (p + 1)) }

  reads_colon : Reads (58 ∷ r) (mark Colon (bytes ":") ∷ ms)
  unfolding characters_from scan_from kind_of class_table class_of
  reads_colon = record { from = λ p. then_one (R.from (p + 1)) }

  reads_semicolon : Reads (59 ∷ r) (mark Semicolon (bytes ";") ∷ ms)
  unfolding characters_from scan_from kind_of class_table class_of
  reads_semicolon = record { from = λ p. then_one (R.from (p + 1)) }

  reads_at : Reads (32 ∷ 97 ∷ 116 ∷ 32 ∷ r) (at_mark ∷ ms)
  unfolding characters_from scan_from kind_of class_table class_of lower same
  reads_at = record { from = λ p. then_one (R.from (p + 1 + 1 + 1 + 1)) }

-- ---- atoms

-- a kind that ends an atom and starts nothing that goes on
abbrev ender : {k : _} → KindView k → Bool
ender is_white = true
ender is_control = false
ender is_return = false
ender is_plain = false
ender is_open = false
ender is_close = false
ender is_less = true
ender is_greater = true
ender is_at = true
ender is_comma = true
ender is_semicolon = true
ender is_colon = true
ender is_backslash = false
ender is_quote = false
ender is_above = false

-- the text ends, or its first byte ends an atom
data Ends : List ℕ → Type 0 where
  at_end_lem : Ends []
  by_byte : {b : ℕ} {r : List ℕ} (v : KindView (kind_of class_table b)) → T (ender v) → eqb b 13 ≡ false → Ends (b ∷ r)

no_fold : (b : ℕ) (r : List ℕ) → eqb b 13 ≡ false → fold_at (b ∷ r) 0 ≡ false
no_fold b r e = rw e

ends_move : {k : _} (v : KindView k) (s e : ℕ) (t : List ℕ) (b p : ℕ) (f : State → Scanned) → T (ender v)
    → then (move (in_atom s e t) k b p false) f ≡ next (scanning.atom s e t) (then (move outside k b p false) f)
ends_move is_white s e t b p f h = refl
ends_move is_control s e t b p f h = absurd h
ends_move is_return s e t b p f h = absurd h
ends_move is_plain s e t b p f h = absurd h
ends_move is_open s e t b p f h = absurd h
ends_move is_close s e t b p f h = absurd h
ends_move is_less s e t b p f h = refl
ends_move is_greater s e t b p f h = refl
ends_move is_at s e t b p f h = refl
ends_move is_comma s e t b p f h = refl
ends_move is_semicolon s e t b p f h = refl
ends_move is_colon s e t b p f h = refl
ends_move is_backslash s e t b p f h = absurd h
ends_move is_quote s e t b p f h = absurd h
ends_move is_above s e t b p f h = absurd h

atom_ends : (r : List ℕ) (p s e : ℕ) (t : List ℕ) → Ends r → scan_as r p (in_atom s e t) ≡ next (scanning.atom s e t) (scan_as r p outside)
unfolding characters_from scan_from
atom_ends [] p s e t at_end_lem = refl
atom_ends (b ∷ r) p s e t (by_byte v h n) =
    let z : fold_at (b ∷ r) 0 ≡ false = no_fold b r n in
    stepped b r p (in_atom s e t) z ∙ ends_move v s e t b p _ h ∙ ap (next (scanning.atom s e t)) (sym (stepped b r p outside z))

not_return : (x : Bool) (class : ℕ) → pick x (kind_of [] 13) (kind_of_class class) ≡ kind_of_class letter → x ≡ false
unfolding kind_of
not_return true class e = absurd cc
not_return false class e = refl

plain_no_fold : (b : ℕ) (r : List ℕ) → IsPlain b → fold_at (b ∷ r) 0 ≡ false
unfolding kind_of
plain_no_fold b r e = no_fold b r (not_return (eqb b 13) (get_or class_table b 0) e)

atom_runs : (bs : List ℕ) {r : List ℕ} {ms : List Mark} → Each IsPlain bs → Ends r → Reads r ms → (p s e : ℕ) (t : List ℕ)
    → Seen (scan_as (bs ++ r) p (in_atom s e t)) (mark (atom_class (t ++ bs)) (t ++ bs) ∷ ms)
atom_runs [] {r} {ms} f h R p s e t = rw (append-nil, atom_ends r p s e t h) (then_one (R.from p))
atom_runs (b ∷ bs) {r} {ms} f h R p s e t =
    let g : (t ++ (b ∷ [])) ++ bs ≡ t ++ (b ∷ bs) = append_assoc t (b ∷ []) bs in
    rw (as_kind b (bs ++ r) p (in_atom s e t) (kind_of_class letter) (plain_no_fold b (bs ++ r) f.0) f.0)
    (rw g at (atom_runs bs f.1 h R (p + 1) s (p + 1) (t ++ (b ∷ []))))

reads_atom : (bs : List ℕ) {r : List ℕ} {ms : List Mark} → WritableAtom bs → Ends r → Reads r ms → Reads (bs ++ r) (mark Atom bs ∷ ms)
reads_atom [] f h R = absurd f
reads_atom (b ∷ bs) {r} {ms} f h R =
    record { from = λ p. rw (as_kind b (bs ++ r) p outside (kind_of_class letter) (plain_no_fold b (bs ++ r) f.0) f.0) (rw f.2 at (atom_runs bs f.1 h R (p + 1) p (p + 1) (b ∷ []))) }

-- ---- quoted-strings

-- data never begin with LF, so that no fold is in them
first_byte : (x y z w : Bool) (b : ℕ) (r : List ℕ) → eqb b 10 ≡ w → eqb (get_or (backslash_text (either x (either y (either z w))) (b ∷ r)) 0 0) 10 ≡ false
first_byte true y z w b r e = refl
first_byte false true z w b r e = refl
first_byte false false true w b r e = refl
first_byte false false false true b r e = refl
first_byte false false false false b r e = e

data_first : (bs r : List ℕ) → eqb (get_or (data_text bs (34 ∷ r)) 0 0) 10 ≡ false
data_first [] r = refl
data_first (b ∷ bs) r = first_byte (eqb b 34) (eqb b 92) (eqb b 13) (eqb b 10) b (data_text bs (34 ∷ r)) refl

data_no_fold : (b : ℕ) (bs r : List ℕ) → fold_at (b ∷ data_text bs (34 ∷ r)) 0 ≡ false
data_no_fold b bs r = rw (data_first bs r, both_false (eqb b 13))

-- one byte of data, with its backslash or without
data_step : (x : Bool) (b : ℕ) (bs r : List ℕ) (p s : ℕ) (t : List ℕ) → T (pick x (has_key taken_keys (tag (kind_of class_table b))) (has_key data_keys (tag (kind_of class_table b))))
    → (q : ℕ) × (scan_as (backslash_text x (b ∷ data_text bs (34 ∷ r))) p (in_quoted s t) ≡ scan_as (data_text bs (34 ∷ r)) q (in_quoted s (t ++ (b ∷ []))))
data_step false b bs r p s t h =
    (p + 1, stepped b (data_text bs (34 ∷ r)) p (in_quoted s t) (data_no_fold b bs r) ∙ rw (quoted_data (kind_of class_table b) s t b p false (hit data_keys _ h)))
data_step true b bs r p s t h = (
  p + 1 + 1,
  as_kind 92 (b ∷ data_text bs (34 ∷ r)) p (in_quoted s t) (kind_of_class backslash) refl (unfold kind_of class_table class_of in refl)
      ∙ stepped b (data_text bs (34 ∷ r)) (p + 1) (taking_in_quoted s t) (data_no_fold b bs r)
      ∙ rw (taken (kind_of class_table b) (in_quoted s (t ++ taken_data b false)) (p + 1) (hit taken_keys _ h), taken_alone b),
)

data_runs : (bs : List ℕ) {r : List ℕ} {ms : List Mark} → Each IsDatum bs → Reads r ms → (p s : ℕ) (t : List ℕ)
    → Seen (scan_as (data_text bs (34 ∷ r)) p (in_quoted s t)) (mark Quoted (t ++ bs) ∷ ms)
data_runs [] {r} {ms} f R p s t =
    rw (append-nil, as_kind 34 r p (in_quoted s t) (kind_of_class quote) refl (unfold kind_of class_table class_of in refl)) (then_one (R.from (p + 1)))
data_runs (b ∷ bs) {r} {ms} f R p s t =
    let (q, e) = data_step (needs_backslash b) b bs r p s t f.0 in
    let g : (t ++ (b ∷ [])) ++ bs ≡ t ++ (b ∷ bs) = append_assoc t (b ∷ []) bs in
    rw e (rw g at (data_runs bs f.1 R q s (t ++ (b ∷ []))))

reads_quoted : (bs : List ℕ) {r : List ℕ} {ms : List Mark} → Each IsDatum bs → Reads r ms → Reads (quoted_text bs r) (mark Quoted bs ∷ ms)
reads_quoted bs {r} {ms} f R =
    record { from = λ p. rw (as_kind 34 (data_text bs (34 ∷ r)) p outside (kind_of_class quote) refl (unfold kind_of class_table class_of in refl)) (data_runs bs f R (p + 1) p []) }

-- ---- words and what is made of them

reads_word : (w : Word) {r : List ℕ} {ms : List Mark} → WritableWord w → Ends r → Reads r ms → Reads (word_text w r) (word_marks w ms)
reads_word (atom bs) f h R = reads_atom bs f h R
reads_word (quoted_string bs) f h R = reads_quoted bs f R

space : {r : List ℕ} → Ends (32 ∷ r)
unfolding kind_of class_table class_of
space = by_byte is_white tt refl

comma_ends : {r : List ℕ} → Ends (44 ∷ r)
unfolding kind_of class_table class_of
comma_ends = by_byte is_comma tt refl

colon_ends : {r : List ℕ} → Ends (58 ∷ r)
unfolding kind_of class_table class_of
colon_ends = by_byte is_colon tt refl

semicolon_ends : {r : List ℕ} → Ends (59 ∷ r)
unfolding kind_of class_table class_of
semicolon_ends = by_byte is_semicolon tt refl

greater_ends : {r : List ℕ} → Ends (62 ∷ r)
unfolding kind_of class_table class_of
greater_ends = by_byte is_greater tt refl

-- after words an atom must end
abbrev EndsWords : Words → List ℕ → Type 0
EndsWords no_word r = Unit {0}
EndsWords (and_word before w) r = Ends r

ends_space : (ws : Words) (r : List ℕ) → EndsWords ws (space_behind ws r)
ends_space no_word r = tt
ends_space (and_word before w) r = space

ends_words : (ws : Words) {r : List ℕ} → Ends r → EndsWords ws r
ends_words no_word h = tt
ends_words (and_word before w) h = h

reads_space_behind : (ws : Words) {r : List ℕ} {ms : List Mark} → Reads r ms → Reads (space_behind ws r) ms
reads_space_behind no_word R = R
reads_space_behind (and_word before w) R = reads_space R

reads_phrase : (ws : Words) {r : List ℕ} {ms : List Mark} → WritableWords ws → EndsWords ws r → Reads r ms → Reads (phrase_text ws r) (phrase_marks ws ms)
reads_phrase no_word f h R = R
reads_phrase (and_word before w) f h R = reads_phrase before f.0 (ends_space before _) (reads_space_behind before (reads_word w f.1 h R))

reads_nodes : (ws : Words) {r : List ℕ} {ms : List Mark} → WritableWords ws → EndsWords ws r → Reads r ms → Reads (nodes_text ws r) (nodes_marks ws ms)
reads_nodes no_word f h R = R
reads_nodes (and_word before w) f h R = reads_nodes before f.0 (ends_words before space) (reads_at (reads_word w f.1 h R))

-- ---- lists and addresses

phrase_words : (ws : Words) → WritablePhrase ws → WritableWords ws
phrase_words no_word f = absurd f
phrase_words (and_word before w) f = f

-- after a phrase a node follows
ends_nodes : (name nodes : Words) (r : List ℕ) → WritablePhrase nodes → EndsWords name (nodes_text nodes r)
ends_nodes name no_word r f = absurd f
ends_nodes name (and_word no_word w) r f = ends_words name space
ends_nodes name (and_word (and_word before v) w) r f = ends_nodes name (and_word before v) _ f.0

ends_space_less : (ws : Words) (r : List ℕ) → EndsWords ws (space_behind ws (60 ∷ r))
ends_space_less ws r = ends_space ws (60 ∷ r)

pick_gap : (x : Bool) {r : List ℕ} {ms : List Mark} → Reads r ms → Reads (pick x (bytes ", ") (bytes " ") ++ r) (pick x (comma_mark ∷ ms) ms)
pick_gap true R = reads_comma (reads_space R)
pick_gap false R = reads_space R

reads_gap : (name : Words) (l : Addresses) {r : List ℕ} {ms : List Mark} → Reads r ms → Reads (group_gap name l r) (gap_marks name l ms)
reads_gap no_word no_address R = R
reads_gap (and_word words w) no_address R = R
reads_gap no_word (and_address before last) R = pick_gap (first_atom_group (and_address before last)) R
reads_gap (and_word words w) (and_address before last) R = reads_space R

-- after addresses an atom must end
abbrev EndsList : WritableList → List ℕ → Type 0
EndsList empty r = Unit {0}
EndsList (also l a) r = Ends r

ends_comma : (l : WritableList) (r : List ℕ) → EndsList l (comma_behind (list_of l) r)
ends_comma empty r = tt
ends_comma (also l a) r = comma_ends

ends_list : (l : WritableList) {r : List ℕ} → Ends r → EndsList l r
ends_list empty h = tt
ends_list (also l a) h = h

reads_comma_behind : (l : WritableList) {r : List ℕ} {ms : List Mark} → Reads r ms → Reads (comma_behind (list_of l) r) (comma_marks (list_of l) ms)
reads_comma_behind empty R = R
reads_comma_behind (also l a) R = reads_comma (reads_space R)

mutual
  reads_list : (l : WritableList) {r : List ℕ} {ms : List Mark} → EndsList l r → Reads r ms → Reads (addresses_text (list_of l) r) (list_marks l ms)
  reads_list empty h R = R
  reads_list (also l a) h R = reads_list l (ends_comma l _) (reads_comma_behind l (reads_address a h R))

  reads_address : (a : WritableAddress) {r : List ℕ} {ms : List Mark} → Ends r → Reads r ms → Reads (address_text (address_of a) r) (address_marks a ms)
  reads_address (mailbox name nodes w v) {r} h R = reads_phrase name (phrase_words name w) (ends_nodes name nodes r v) (reads_nodes nodes (phrase_words nodes v) (ends_words nodes h) R)
  reads_address (angle name w l) h R = reads_phrase name w (ends_space_less name _) (reads_space_behind name (reads_less (reads_list l (ends_list l greater_ends) (reads_greater R))))
  reads_address (group name w l) h R = reads_phrase name w (ends_words name colon_ends) (reads_colon (reads_gap name (list_of l) (reads_list l (ends_list l semicolon_ends) (reads_semicolon R))))
  reads_address (quoted content w) h R = reads_quoted content w R
  reads_address (typed letters w a) h R = rw typed_text (reads_colon (reads_atom letters w colon_ends (reads_colon (reads_space (reads_address a h R)))))

-- a plain text scans to its marks
pub reads_plain : (l : WritableList) → Reads (addresses_text (list_of l) []) (list_marks l [])
reads_plain l = reads_list l (ends_list l at_end_lem) reads_nothing
