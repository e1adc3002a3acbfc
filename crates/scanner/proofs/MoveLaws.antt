-- What one character does in each state. Assumes nothing.
use mathlib.Core.Path.{◌≡◌, refl, sym, ap, ◌∙◌}
use mathlib.Core.Bool.{Bool, true, false}
use mathlib.Core.List.{List, [], ◌∷◌, ◌++◌}
use Prim.Native.Nat.{ℕ, zero, suc, ◌+◌, ◌-◌, ◌≤◌, ◌<◌}
use native.Mathlib.Numerals.{add-one}
use native.Mathlib.Omega.{arith}
use lib.ListN.{length, get_or, drop, length-drop, length-append}
use lib.Seq.{take-suc, get_or-drop}
use types.Run.{OneOf, miss}
use denote.Enum.Declared.{tag_of}
use Rattle.octets.specs.Believed.Numbers.{stray_control}
use Rattle.octets.specs.Believed.Choice.{pick}
use Rattle.octets.specs.Believed.Text.{part}
use Rattle.octets.proofs.Parts.{part_none}
use Rattle.scanner.specs.Believed.Characters.{characters_at}
use Rattle.scanner.specs.Believed.Scanning.{Scanned, next, fault_at, State, outside, in_atom, in_quoted, taking_in_quoted, in_literal, taking_in_literal, in_comment, taking_in_comment, Move, go, halt, symbol, atom, single, taken_data, move, closed, at_end, then, scan_from}
use Rattle.scanner.specs.Believed.Scanning as scanning
use Rattle.scanner.specs.Ties.Steps.{outside_at, FirstCharacter, LiteralPasses}
use Rattle.scanner.specs.declared.Class.{Class}
use Rattle.scanner.specs.declared.Class.TheVariants.{Stray}
use Rattle.scanner.specs.declared.ByteKind.{ByteKind}
use Rattle.scanner.specs.declared.ByteKind.TheVariants.{White, Control, Return, Plain, Open, Close, Quote, Backslash, Mark, Above, OpenBracket, CloseBracket}
use Rattle.scanner.specs.contracts.ByteKind.{the_type}

-- a kind's place in its declaration
abbrev pub tag : ByteKind → ℕ
tag kind = tag_of the_type kind

-- the text ends
pub at_end_lem : (classes text : List ℕ) (at : ℕ) (state : State) → characters_at text at ≡ [] → scan_from classes (characters_at text at) state ≡ at_end state
unfolding scan_from
at_end_lem classes text at state e = rw e

-- a character makes its move
pub moves : {classes text : List ℕ} {at : ℕ} {kind : ByteKind} {p q : ℕ} → (x : FirstCharacter classes text at kind p q) (state : State) (m : Move) → move state kind (get_or text p 0) p x.folded ≡ m
    → scan_from classes (characters_at text at) state ≡ then m (λ state'. scan_from classes (characters_at text q) state')
unfolding scan_from
moves x state m e = rw (x.characters, ← x.kind_is, e)

-- ---- the kinds that an arm of the code stands for

-- any but Plain
abbrev pub NotPlain : ByteKind → Type 0
NotPlain kind = OneOf (0 ∷ 1 ∷ 2 ∷ 4 ∷ 5 ∷ 6 ∷ 7 ∷ 8 ∷ 9 ∷ 10 ∷ 11 ∷ []) (tag kind)

-- data of a quoted-string as they are
abbrev pub Data : ByteKind → Type 0
Data kind = OneOf (0 ∷ 1 ∷ 3 ∷ 4 ∷ 5 ∷ 8 ∷ 10 ∷ 11 ∷ []) (tag kind)

-- text of a comment as it is
abbrev pub Text : ByteKind → Type 0
Text kind = OneOf (0 ∷ 1 ∷ 3 ∷ 6 ∷ 8 ∷ 10 ∷ 11 ∷ []) (tag kind)

-- any but Above
abbrev pub Taken : ByteKind → Type 0
Taken kind = OneOf (0 ∷ 1 ∷ 2 ∷ 3 ∷ 4 ∷ 5 ∷ 6 ∷ 7 ∷ 8 ∷ 10 ∷ 11 ∷ []) (tag kind)

ends_atom : (classes : List ℕ) (kind : ByteKind) (b p : ℕ) (folded : Bool) (start end : ℕ) (t : List ℕ) (rest : State → Scanned) → NotPlain kind
    → then (move (in_atom start end t) kind b p folded) rest ≡ next (atom start end t) (then (move outside kind b p folded) rest)
ends_atom classes White b p folded start end t rest o = refl
ends_atom classes Control b p folded start end t rest o = refl
ends_atom classes Return b p folded start end t rest o = refl
ends_atom classes Plain b p folded start end t rest o = absurd (miss (0 ∷ 1 ∷ 2 ∷ 4 ∷ 5 ∷ 6 ∷ 7 ∷ 8 ∷ 9 ∷ 10 ∷ 11 ∷ []) 3 tt o)
ends_atom classes Open b p folded start end t rest o = refl
ends_atom classes Close b p folded start end t rest o = refl
ends_atom classes Quote b p folded start end t rest o = refl
ends_atom classes Backslash b p folded start end t rest o = refl
ends_atom classes (Mark class) b p folded start end t rest o = refl
ends_atom classes Above b p folded start end t rest o = refl
ends_atom classes OpenBracket b p folded start end t rest o = refl
ends_atom classes CloseBracket b p folded start end t rest o = refl

-- an atom ends before any other byte, which then does what it does outside
pub atom_ends : {classes text : List ℕ} {at p q : ℕ} {kind : ByteKind} (start : ℕ) (t : List ℕ) → FirstCharacter classes text at kind p q → NotPlain kind
    → scan_from classes (characters_at text at) (in_atom start at t) ≡ next (atom start at t) (outside_at classes text at)
atom_ends {classes} {text} {at} {p} {q} {kind} start t x o =
    moves x (in_atom start at t) _ refl ∙ ends_atom classes kind (get_or text p 0) p x.folded start at t (λ s. scan_from classes (characters_at text q) s) o
    ∙ ap (next (atom start at t)) (sym (moves x outside _ refl))

pub quoted_data : (kind : ByteKind) (start : ℕ) (t : List ℕ) (b p : ℕ) (folded : Bool) → Data kind → move (in_quoted start t) kind b p folded ≡ go [] (in_quoted start (t ++ (b ∷ [])))
quoted_data White start t b p folded o = refl
quoted_data Control start t b p folded o = refl
quoted_data Return start t b p folded o = absurd (miss (0 ∷ 1 ∷ 3 ∷ 4 ∷ 5 ∷ 8 ∷ 10 ∷ 11 ∷ []) 2 tt o)
quoted_data Plain start t b p folded o = refl
quoted_data Open start t b p folded o = refl
quoted_data Close start t b p folded o = refl
quoted_data Quote start t b p folded o = absurd (miss (0 ∷ 1 ∷ 3 ∷ 4 ∷ 5 ∷ 8 ∷ 10 ∷ 11 ∷ []) 6 tt o)
quoted_data Backslash start t b p folded o = absurd (miss (0 ∷ 1 ∷ 3 ∷ 4 ∷ 5 ∷ 8 ∷ 10 ∷ 11 ∷ []) 7 tt o)
quoted_data (Mark class) start t b p folded o = refl
quoted_data Above start t b p folded o = absurd (miss (0 ∷ 1 ∷ 3 ∷ 4 ∷ 5 ∷ 8 ∷ 10 ∷ 11 ∷ []) 9 tt o)
quoted_data OpenBracket start t b p folded o = refl
quoted_data CloseBracket start t b p folded o = refl

pub taken : (kind : ByteKind) (state : State) (p : ℕ) → Taken kind → scanning.take kind state p ≡ go [] state
taken White state p o = refl
taken Control state p o = refl
taken Return state p o = refl
taken Plain state p o = refl
taken Open state p o = refl
taken Close state p o = refl
taken Quote state p o = refl
taken Backslash state p o = refl
taken (Mark class) state p o = refl
taken Above state p o = absurd (miss (0 ∷ 1 ∷ 2 ∷ 3 ∷ 4 ∷ 5 ∷ 6 ∷ 7 ∷ 8 ∷ 10 ∷ 11 ∷ []) 9 tt o)
taken OpenBracket state p o = refl
taken CloseBracket state p o = refl

-- after no fold, a backslash takes the byte alone
pub taken_alone : (b : ℕ) → taken_data b false ≡ b ∷ []
unfolding taken_data
taken_alone b = refl

pub comment_text : (kind : ByteKind) (depth start b p : ℕ) (folded : Bool) → Text kind → move (in_comment depth start) kind b p folded ≡ go [] (in_comment depth start)
comment_text White depth start b p folded o = refl
comment_text Control depth start b p folded o = refl
comment_text Return depth start b p folded o = absurd (miss (0 ∷ 1 ∷ 3 ∷ 6 ∷ 8 ∷ 10 ∷ 11 ∷ []) 2 tt o)
comment_text Plain depth start b p folded o = refl
comment_text Open depth start b p folded o = absurd (miss (0 ∷ 1 ∷ 3 ∷ 6 ∷ 8 ∷ 10 ∷ 11 ∷ []) 4 tt o)
comment_text Close depth start b p folded o = absurd (miss (0 ∷ 1 ∷ 3 ∷ 6 ∷ 8 ∷ 10 ∷ 11 ∷ []) 5 tt o)
comment_text Quote depth start b p folded o = refl
comment_text Backslash depth start b p folded o = absurd (miss (0 ∷ 1 ∷ 3 ∷ 6 ∷ 8 ∷ 10 ∷ 11 ∷ []) 7 tt o)
comment_text (Mark class) depth start b p folded o = refl
comment_text Above depth start b p folded o = absurd (miss (0 ∷ 1 ∷ 3 ∷ 6 ∷ 8 ∷ 10 ∷ 11 ∷ []) 9 tt o)
comment_text OpenBracket depth start b p folded o = refl
comment_text CloseBracket depth start b p folded o = refl

-- a lone ")" or backslash
stray : (kind : ByteKind) (b p : ℕ) (folded : Bool) → OneOf (5 ∷ 7 ∷ 11 ∷ []) (tag kind) → move outside kind b p folded ≡ go (single Stray b p ∷ []) outside
stray White b p folded o = absurd (miss (5 ∷ 7 ∷ 11 ∷ []) 0 tt o)
stray Control b p folded o = absurd (miss (5 ∷ 7 ∷ 11 ∷ []) 1 tt o)
stray Return b p folded o = absurd (miss (5 ∷ 7 ∷ 11 ∷ []) 2 tt o)
stray Plain b p folded o = absurd (miss (5 ∷ 7 ∷ 11 ∷ []) 3 tt o)
stray Open b p folded o = absurd (miss (5 ∷ 7 ∷ 11 ∷ []) 4 tt o)
stray Close b p folded o = refl
stray Quote b p folded o = absurd (miss (5 ∷ 7 ∷ 11 ∷ []) 6 tt o)
stray Backslash b p folded o = refl
stray (Mark class) b p folded o = absurd (miss (5 ∷ 7 ∷ 11 ∷ []) 8 tt o)
stray Above b p folded o = absurd (miss (5 ∷ 7 ∷ 11 ∷ []) 9 tt o)
stray OpenBracket b p folded o = absurd (miss (5 ∷ 7 ∷ 11 ∷ []) 10 tt o)
stray CloseBracket b p folded o = refl

-- a control byte outside
stray_control_lem : (kind : ByteKind) (b p : ℕ) (folded : Bool) → OneOf (1 ∷ 2 ∷ []) (tag kind) → move outside kind b p folded ≡ halt [] stray_control p
stray_control_lem White b p folded o = absurd (miss (1 ∷ 2 ∷ []) 0 tt o)
stray_control_lem Control b p folded o = refl
stray_control_lem Return b p folded o = refl
stray_control_lem Plain b p folded o = absurd (miss (1 ∷ 2 ∷ []) 3 tt o)
stray_control_lem Open b p folded o = absurd (miss (1 ∷ 2 ∷ []) 4 tt o)
stray_control_lem Close b p folded o = absurd (miss (1 ∷ 2 ∷ []) 5 tt o)
stray_control_lem Quote b p folded o = absurd (miss (1 ∷ 2 ∷ []) 6 tt o)
stray_control_lem Backslash b p folded o = absurd (miss (1 ∷ 2 ∷ []) 7 tt o)
stray_control_lem (Mark class) b p folded o = absurd (miss (1 ∷ 2 ∷ []) 8 tt o)
stray_control_lem Above b p folded o = absurd (miss (1 ∷ 2 ∷ []) 9 tt o)
stray_control_lem OpenBracket b p folded o = absurd (miss (1 ∷ 2 ∷ []) 10 tt o)
stray_control_lem CloseBracket b p folded o = absurd (miss (1 ∷ 2 ∷ []) 11 tt o)

-- ---- an atom and its bytes

pub part_more : (text : List ℕ) (start p : ℕ) → start ≤ p → p < length text → part text start p ++ (get_or text p 0 ∷ []) ≡ part text start (p + 1)
part_more text start p h k =
    let e : p + 1 - start ≡ suc (p - start) = omega arith in
    let n : start + (p - start) ≡ p = omega arith in
    let g : get_or (drop start text) (p - start) 0 ≡ get_or text p 0 = rw (get_or-drop, n) in
    let j : p - start < length (drop start text) = rw length-drop (omega arith) in
    rw e (sym (take-suc (drop start text) (p - start) 0 j ∙ rw g))

-- the part of one byte
pub part_one : (text : List ℕ) (p q : ℕ) → q ≡ p + 1 → q ≤ length text → get_or text p 0 ∷ [] ≡ part text p q
part_one text p q e h = rw e (ap (λ l. l ++ (get_or text p 0 ∷ [])) (sym (part_none text p p (omega arith))) ∙ part_more text p p (omega arith) (omega arith))

plain_white : Plain ≡ White → ⊥
plain_white e = let o : ◌≡◌ {A = ℕ} 0 1 = cc in omega arith

-- a plain byte goes on with the atom
pub atom_on : {classes text : List ℕ} {at p q : ℕ} (start : ℕ) → start ≤ at → FirstCharacter classes text at Plain p q
    → scan_from classes (characters_at text at) (in_atom start at (part text start at)) ≡ scan_from classes (characters_at text q) (in_atom start q (part text start q))
atom_on {classes} {text} {at} {p} {q} start l x =
    let e : p ≡ at = x.tight plain_white in
    let n : q ≡ p + 1 = x.behind in
    let w : q ≤ length text = x.within in
    let k : part text start at ++ (get_or text p 0 ∷ []) ≡ part text start q = rw (n, e) (part_more text start at l (omega arith)) in
    moves x (in_atom start at (part text start at)) (go [] (in_atom start (p + 1) (part text start at ++ (get_or text p 0 ∷ [])))) refl ∙ rw (k, ← n)

-- a plain byte outside begins one
pub atom_begins : {classes text : List ℕ} {at p q : ℕ} → FirstCharacter classes text at Plain p q
    → outside_at classes text at ≡ scan_from classes (characters_at text q) (in_atom p q (part text p q))
atom_begins {classes} {text} {at} {p} {q} x =
    moves x outside (go [] (in_atom p (p + 1) (get_or text p 0 ∷ []))) refl ∙ rw (part_one text p q x.behind x.within, ← x.behind)

-- the text ends in an atom
pub atom_last : (classes text : List ℕ) (start at : ℕ) (t : List ℕ) → characters_at text at ≡ []
    → scan_from classes (characters_at text at) (in_atom start at t) ≡ next (atom start at t) (outside_at classes text at)
atom_last classes text start at t e = at_end_lem classes text at (in_atom start at t) e ∙ ap (next (atom start at t)) (sym (at_end_lem classes text at outside e))

-- ---- a quoted-string

-- from its opening quote scanning has come to a position inside it
pub record Quoting (classes text : List ℕ) (start at p : ℕ) : Type 0 where
  pub meaning : List ℕ
  pub same : scan_from classes (characters_at text at) (in_quoted start []) ≡ scan_from classes (characters_at text p) (in_quoted start meaning)

module _ {classes text : List ℕ} {start at p : ℕ} (w : Quoting classes text start at p) where
  pub quoted_moves : {q r : ℕ} {kind : ByteKind} (x : FirstCharacter classes text p kind q r) (m : Move) → move (in_quoted start w.meaning) kind (get_or text q 0) q x.folded ≡ m
      → scan_from classes (characters_at text at) (in_quoted start []) ≡ then m (λ state. scan_from classes (characters_at text r) state)
  quoted_moves x m e = w.same ∙ moves x (in_quoted start w.meaning) m e

  -- data as they are
  unfoldable pub quoted_on : {q r : ℕ} {kind : ByteKind} → FirstCharacter classes text p kind q r → Data kind → Quoting classes text start at r
  quoted_on {q} {kind = kind} x o =
      record { meaning = w.meaning ++ (get_or text q 0 ∷ []); same = quoted_moves x (go [] (in_quoted start (w.meaning ++ (get_or text q 0 ∷ [])))) (quoted_data kind start w.meaning (get_or text q 0) q x.folded o) }

  -- a backslash, and what comes of the character after it
  pub quoted_taking : {q r s u : ℕ} {kind : ByteKind} → FirstCharacter classes text p Backslash q r → (y : FirstCharacter classes text r kind s u) (m : Move)
      → scanning.take kind (in_quoted start (w.meaning ++ taken_data (get_or text s 0) y.folded)) s ≡ m
      → scan_from classes (characters_at text at) (in_quoted start []) ≡ then m (λ state. scan_from classes (characters_at text u) state)
  quoted_taking x y m e = quoted_moves x (go [] (taking_in_quoted start w.meaning)) refl ∙ moves y (taking_in_quoted start w.meaning) m e

  unfoldable pub quoted_taken : {q r s u : ℕ} {kind : ByteKind} → FirstCharacter classes text p Backslash q r → FirstCharacter classes text r kind s u → Taken kind → Quoting classes text start at u
  quoted_taken {s = s} {kind = kind} x y o =
      let t : List ℕ = w.meaning ++ taken_data (get_or text s 0) y.folded in
      record { meaning = t; same = quoted_taking x y (go [] (in_quoted start t)) (taken kind (in_quoted start t) s o) }

-- what a backslash takes has the bytes that stand up to the character's end
taken-length : (b at p q : ℕ) (folded : Bool) → p ≡ pick folded (at + 2) at → q ≡ p + 1 → length (taken_data b folded) ≡ q - at
unfolding taken_data
taken-length b at p q true d n = omega arith
taken-length b at p q false d n = omega arith

-- .. with so many data, counted
pub record Counting (classes text : List ℕ) (start at p size : ℕ) : Type 0 where
  pub quoting : Quoting classes text start at p
  pub size_is : size ≡ length quoting.meaning
  pub low : size ≤ p

module _ {classes text : List ℕ} {start at p size : ℕ} (w : Counting classes text start at p size) where
  pub counting_on : {q r : ℕ} {kind : ByteKind} → FirstCharacter classes text p kind q r → Data kind → Counting classes text start at r (size + 1)
  unfolding quoted_on
  counting_on {q} x o =
      record {
        quoting = quoted_on w.quoting x o;
        size_is = rw w.size_is (sym (length-append w.quoting.meaning (get_or text q 0 ∷ [])));
        low = omega (arith, w.low, x.from, x.behind);
      }

  pub counting_taken : {q r s u : ℕ} {kind : ByteKind} → FirstCharacter classes text p Backslash q r → FirstCharacter classes text r kind s u → Taken kind → Counting classes text start at u (size + (u - r))
  unfolding quoted_taken
  counting_taken {r = r} {s = s} {u = u} x y o =
      record {
        quoting = quoted_taken w.quoting x y o;
        size_is = rw (w.size_is, ← (taken-length (get_or text s 0) r s u y.folded y.distance y.behind)) (sym (length-append w.quoting.meaning (taken_data (get_or text s 0) y.folded)));
        low = omega (arith, w.low, x.from, x.behind, y.from, y.behind);
      }

-- ---- a domain literal

-- text of a literal as it is
abbrev pub LiteralText : ByteKind → Type 0
LiteralText kind = OneOf (0 ∷ 1 ∷ 3 ∷ 4 ∷ 5 ∷ 6 ∷ 8 ∷ []) (tag kind)

pub literal_text : (kind : ByteKind) (start b p : ℕ) (folded : Bool) → LiteralText kind → move (in_literal start) kind b p folded ≡ go [] (in_literal start)
literal_text White start b p folded o = refl
literal_text Control start b p folded o = refl
literal_text Return start b p folded o = absurd (miss (0 ∷ 1 ∷ 3 ∷ 4 ∷ 5 ∷ 6 ∷ 8 ∷ []) 2 tt o)
literal_text Plain start b p folded o = refl
literal_text Open start b p folded o = refl
literal_text Close start b p folded o = refl
literal_text Quote start b p folded o = refl
literal_text Backslash start b p folded o = absurd (miss (0 ∷ 1 ∷ 3 ∷ 4 ∷ 5 ∷ 6 ∷ 8 ∷ []) 7 tt o)
literal_text (Mark class) start b p folded o = refl
literal_text Above start b p folded o = absurd (miss (0 ∷ 1 ∷ 3 ∷ 4 ∷ 5 ∷ 6 ∷ 8 ∷ []) 9 tt o)
literal_text OpenBracket start b p folded o = absurd (miss (0 ∷ 1 ∷ 3 ∷ 4 ∷ 5 ∷ 6 ∷ 8 ∷ []) 10 tt o)
literal_text CloseBracket start b p folded o = absurd (miss (0 ∷ 1 ∷ 3 ∷ 4 ∷ 5 ∷ 6 ∷ 8 ∷ []) 11 tt o)

-- from its "[" scanning has come to a position inside it
pub record InLiteral (classes text : List ℕ) (start at p : ℕ) : Type 0 where
  pub same : scan_from classes (characters_at text at) (in_literal start) ≡ scan_from classes (characters_at text p) (in_literal start)

module _ {classes text : List ℕ} {start at p : ℕ} (w : InLiteral classes text start at p) where
  -- .. and to another, with text of it between
  pub literal_passed : {q : ℕ} → LiteralPasses classes text p q → InLiteral classes text start at q
  literal_passed x = record { same = w.same ∙ x.same start }

  pub literal_moves : {q r : ℕ} {kind : ByteKind} (x : FirstCharacter classes text p kind q r) (m : Move) → move (in_literal start) kind (get_or text q 0) q x.folded ≡ m
      → scan_from classes (characters_at text at) (in_literal start) ≡ then m (λ state. scan_from classes (characters_at text r) state)
  literal_moves x m e = w.same ∙ moves x (in_literal start) m e

  pub literal_on : {q r : ℕ} {kind : ByteKind} → FirstCharacter classes text p kind q r → LiteralText kind → InLiteral classes text start at r
  literal_on {q} {kind = kind} x o = record { same = literal_moves x (go [] (in_literal start)) (literal_text kind start (get_or text q 0) q x.folded o) }

  pub literal_taking : {q r s u : ℕ} {kind : ByteKind} → FirstCharacter classes text p Backslash q r → FirstCharacter classes text r kind s u → (m : Move)
      → scanning.take kind (in_literal start) s ≡ m
      → scan_from classes (characters_at text at) (in_literal start) ≡ then m (λ state. scan_from classes (characters_at text u) state)
  literal_taking x y m e = literal_moves x (go [] (taking_in_literal start)) refl ∙ moves y (taking_in_literal start) m e

  pub literal_taken : {q r s u : ℕ} {kind : ByteKind} → FirstCharacter classes text p Backslash q r → FirstCharacter classes text r kind s u → Taken kind → InLiteral classes text start at u
  literal_taken {s = s} {kind = kind} x y o = record { same = literal_taking x y (go [] (in_literal start)) (taken kind (in_literal start) s o) }

-- ---- a comment

-- from its outermost "(" scanning has come to a position inside it, `depth` comments lying around the one that is open there
pub record Commenting (classes text : List ℕ) (start at depth p : ℕ) : Type 0 where
  pub same : scan_from classes (characters_at text at) (in_comment 0 start) ≡ scan_from classes (characters_at text p) (in_comment depth start)

pub closed_inner : (depth start : ℕ) → (depth ≡ 0 → ⊥) → closed depth start ≡ in_comment (depth - 1) start
closed_inner zero start n = absurd (n refl)
closed_inner (suc depth) start n = let e : depth ≡ suc depth - 1 = omega arith in ap (λ (d : ℕ). in_comment d start) e

module _ {classes text : List ℕ} {start at depth p : ℕ} (w : Commenting classes text start at depth p) where
  pub comment_moves : {q r : ℕ} {kind : ByteKind} (x : FirstCharacter classes text p kind q r) (m : Move) → move (in_comment depth start) kind (get_or text q 0) q x.folded ≡ m
      → scan_from classes (characters_at text at) (in_comment 0 start) ≡ then m (λ state. scan_from classes (characters_at text r) state)
  comment_moves x m e = w.same ∙ moves x (in_comment depth start) m e

  -- text as it is
  pub comment_on : {q r : ℕ} {kind : ByteKind} → FirstCharacter classes text p kind q r → Text kind → Commenting classes text start at depth r
  comment_on {q} {kind = kind} x o = record { same = comment_moves x (go [] (in_comment depth start)) (comment_text kind depth start (get_or text q 0) q x.folded o) }

  -- a comment in it opens
  pub comment_opens : {q r : ℕ} → FirstCharacter classes text p Open q r → Commenting classes text start at (depth + 1) r
  comment_opens x = record { same = comment_moves x (go [] (in_comment (suc depth) start)) refl ∙ rw add-one }

  -- a comment in it closes
  pub comment_closes : {q r : ℕ} → FirstCharacter classes text p Close q r → (depth ≡ 0 → ⊥) → Commenting classes text start at (depth - 1) r
  comment_closes x n = record { same = comment_moves x (go [] (closed depth start)) refl ∙ rw (closed_inner depth start n) }

  -- it closes itself, and scanning goes on outside
  pub comment_over : {q r : ℕ} → FirstCharacter classes text p Close q r → depth ≡ 0 → scan_from classes (characters_at text at) (in_comment 0 start) ≡ outside_at classes text r
  comment_over x e = comment_moves x (go [] (closed depth start)) refl ∙ rw e

  -- a backslash, and what comes of the character after it
  pub comment_taking : {q r s u : ℕ} {kind : ByteKind} → FirstCharacter classes text p Backslash q r → FirstCharacter classes text r kind s u → (m : Move)
      → scanning.take kind (in_comment depth start) s ≡ m
      → scan_from classes (characters_at text at) (in_comment 0 start) ≡ then m (λ state. scan_from classes (characters_at text u) state)
  comment_taking x y m e = comment_moves x (go [] (taking_in_comment depth start)) refl ∙ moves y (taking_in_comment depth start) m e

  pub comment_taken : {q r s u : ℕ} {kind : ByteKind} → FirstCharacter classes text p Backslash q r → FirstCharacter classes text r kind s u → Taken kind → Commenting classes text start at depth u
  comment_taken {s = s} {kind = kind} x y o =
      record { same = comment_taking x y (go [] (in_comment depth start)) (taken kind (in_comment depth start) s o) }

-- ---- symbols and faults of one character, outside

module _ {classes text : List ℕ} {at p q : ℕ} where
  -- a single byte that is a symbol
  single_next : {kind : ByteKind} (class : Class) (x : FirstCharacter classes text at kind p q) → move outside kind (get_or text p 0) p x.folded ≡ go (single class (get_or text p 0) p ∷ []) outside
      → outside_at classes text at ≡ next (symbol class p q (get_or text p 0 ∷ [])) (outside_at classes text q)
  single_next class x e =
      moves x outside (go (single class (get_or text p 0) p ∷ []) outside) e
      ∙ ap (λ (end : ℕ). next (symbol class p end (get_or text p 0 ∷ [])) (outside_at classes text q)) (sym x.behind)

  pub mark_next : {class : Class} → FirstCharacter classes text at (Mark class) p q → outside_at classes text at ≡ next (symbol class p q (get_or text p 0 ∷ [])) (outside_at classes text q)
  mark_next {class} x = single_next class x refl

  pub stray_next : {kind : ByteKind} → FirstCharacter classes text at kind p q → OneOf (5 ∷ 7 ∷ 11 ∷ []) (tag kind) → outside_at classes text at ≡ next (symbol Stray p q (get_or text p 0 ∷ [])) (outside_at classes text q)
  stray_next {kind} x o = single_next Stray x (stray kind (get_or text p 0) p x.folded o)

  pub control_next : {kind : ByteKind} → FirstCharacter classes text at kind p q → OneOf (1 ∷ 2 ∷ []) (tag kind) → outside_at classes text at ≡ fault_at stray_control p
  control_next {kind} x o = moves x outside (halt [] stray_control p) (stray_control_lem kind (get_or text p 0) p x.folded o)
