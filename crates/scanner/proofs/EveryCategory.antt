-- Of a body that scans without fault, each byte is told that lies in no symbol that fits no rule. Assumes nothing.
use mathlib.Core.Path.{◌≡◌, refl, sym}
use mathlib.Core.Bool.{Bool, true, false}
use mathlib.Core.List.{List, [], ◌∷◌}
use Prim.Native.Nat.{ℕ, zero, suc, ◌+◌, ◌≤◌, ◌<◌}
use native.Mathlib.Decide.{dec_lt}
use native.Mathlib.Omega.{arith}
use lib.ListN.{length, get_or, take}
use lib.Seq.{length-take-le}
use types.Run.{hit}
use Rattle.octets.specs.Believed.Choice.{pick}
use Rattle.octets.specs.Believed.Classes.{class_table}
use Rattle.octets.specs.Believed.Letters.{same_letters}
use Rattle.octets.specs.Believed.Text.{bytes, part}
use Rattle.octets.specs.declared.answers.Answer.TheVariants.{Accepted}
use Rattle.scanner.specs.Believed.Characters.{characters_at}
use Rattle.scanner.specs.Believed.Scanning.{Scanned, ended, next, fault_at, State, outside, in_comment, Move, go, halt, move, move_in_comment, closed, symbols_of, scan_from, parted, scan_by}
use Rattle.scanner.specs.Believed.Scanning as scanning
use Rattle.scanner.specs.Ties.Steps.{FirstCharacter, Faultless}
use Rattle.scanner.specs.Believed.Categories.{of_symbol, taken_in, behind, between, category_of, Told, InStray, here, further, ToldUnlessStray}
use Rattle.scanner.specs.Ties.Gaps.{state_of}
use Rattle.scanner.specs.declared.Class.{Class}
use Rattle.scanner.specs.declared.Class.TheVariants.{Atom, Quoted, At, LessThan, GreaterThan, Comma, Semicolon, Colon, Stray, Dot, Literal}
use Rattle.scanner.specs.declared.Gap.{Gap}
use Rattle.scanner.specs.declared.Gap.TheVariants.{Outside, Comment, Taking}
use Rattle.scanner.specs.declared.ByteKind.{ByteKind}
use Rattle.scanner.specs.declared.ByteKind.TheVariants.{White, Control, Return, Plain, Open, Close, Quote, Backslash, Mark, Above, OpenBracket, CloseBracket}
use Rattle.scanner.specs.declared.Category.{Category}
use Rattle.scanner.specs.declared.Category.TheVariants as category
use Rattle.scanner.proofs.CharacterLaws.{View, over, one, view, none_left}
use Rattle.scanner.proofs.MoveLaws.{moves}
use Rattle.scanner.proofs.Unfolding.{SymbolAt, Unfolded, no_symbol, a_symbol, a_fault, unfolded, OutsideIs, white_space, opens_comment_lem, begins, faulty, outside_is, faultless_on}
use Rattle.scanner.proofs.BodyChecks.{no_fault, Clean, clean}
use Rattle.scanner.proofs.CategoryLaws.{moves_on, tells, category_over, category_before, category_in, category_behind, category_inside}

-- ---- in a symbol

at_told : (test : Bool) → Told (pick test category.At category.Mark)
at_told true = tt
at_told false = tt

symbol_told : (class : Class) (t : List ℕ) → (class ≡ Stray → ⊥) → Told (of_symbol class t)
symbol_told Atom t n = tt
symbol_told Quoted t n = tt
symbol_told At t n = at_told (same_letters t (bytes "at"))
symbol_told LessThan t n = tt
symbol_told GreaterThan t n = tt
symbol_told Comma t n = tt
symbol_told Semicolon t n = tt
symbol_told Colon t n = tt
symbol_told Stray t n = n refl
symbol_told Dot t n = tt
symbol_told Literal t n = tt

-- ---- between symbols

-- no fault comes first, and no symbol that starts at a place or before it
abbrev NoneUpTo : ℕ → Scanned → Type 0
NoneUpTo place ended = Unit {0}
NoneUpTo place (next x rest) = place < x.lexeme.start
NoneUpTo place (fault_at number p) = ⊥

-- a move that stays between symbols, or is a fault
data Stays (m : Move) : Type 0 where
  stays : (gap : Gap) (start : ℕ) → m ≡ go [] (state_of gap start) → Stays m
  halts : (number p : ℕ) → m ≡ halt [] number p → Stays m

stays_on : (gap : Gap) (start : ℕ) (rest : State → Category) → behind (go [] (state_of gap start)) rest ≡ rest (state_of gap start)
stays_on Outside start rest = refl
stays_on (Comment depth) start rest = refl
stays_on (Taking depth) start rest = refl

-- in a comment every move does
closes : (depth start : ℕ) → Stays (go [] (closed depth start))
closes zero start = stays Outside start refl
closes (suc depth) start = stays (Comment depth) start refl

in_comment_lem : (kind : ByteKind) (depth start p : ℕ) → Stays (move_in_comment kind depth start p)
in_comment_lem White depth start p = stays (Comment depth) start refl
in_comment_lem Control depth start p = stays (Comment depth) start refl
in_comment_lem Return depth start p = halts _ p refl
in_comment_lem Plain depth start p = stays (Comment depth) start refl
in_comment_lem Open depth start p = stays (Comment (suc depth)) start refl
in_comment_lem Close depth start p = closes depth start
in_comment_lem Quote depth start p = stays (Comment depth) start refl
in_comment_lem Backslash depth start p = stays (Taking depth) start refl
in_comment_lem (Mark class) depth start p = stays (Comment depth) start refl
in_comment_lem Above depth start p = halts _ p refl
in_comment_lem OpenBracket depth start p = stays (Comment depth) start refl
in_comment_lem CloseBracket depth start p = stays (Comment depth) start refl

taking : (kind : ByteKind) (depth start p : ℕ) → Stays (scanning.take kind (in_comment depth start) p)
taking White depth start p = stays (Comment depth) start refl
taking Control depth start p = stays (Comment depth) start refl
taking Return depth start p = stays (Comment depth) start refl
taking Plain depth start p = stays (Comment depth) start refl
taking Open depth start p = stays (Comment depth) start refl
taking Close depth start p = stays (Comment depth) start refl
taking Quote depth start p = stays (Comment depth) start refl
taking Backslash depth start p = stays (Comment depth) start refl
taking (Mark class) depth start p = stays (Comment depth) start refl
taking Above depth start p = halts _ p refl
taking OpenBracket depth start p = stays (Comment depth) start refl
taking CloseBracket depth start p = stays (Comment depth) start refl

module _ (classes text : List ℕ) (place : ℕ) where
  -- from a position on, in a state, none comes first
  abbrev None : ℕ → State → Type 0
  None at state = NoneUpTo place (scan_from classes (characters_at text at) state)

  abbrev ToldFrom : ℕ → State → Type 0
  ToldFrom at state = Told (between classes place (characters_at text at) state)

  -- outside, such a character is white space or opens a comment
  outside_stays : {at p : ℕ} {kind : ByteKind} (b : ℕ) (folded : Bool) → OutsideIs classes text at kind p → at ≤ place → None at outside → Told (taken_in outside kind) × Stays (move outside kind b p folded)
  outside_stays {p = p} b folded white_space h n = (tt, stays Outside 0 refl)
  outside_stays {p = p} b folded opens_comment_lem h n = (tt, stays (Comment 0) p refl)
  outside_stays b folded (begins e s) h n = let l = rw s.same at n in absurd (omega arith)
  outside_stays b folded (faulty e) h n = absurd (rw e at n)

  -- .. and in a comment it is comment
  each_stays : (gap : Gap) (start : ℕ) {at p q : ℕ} {kind : ByteKind} (x : FirstCharacter classes text at kind p q) → at ≤ place → None at (state_of gap start)
      → Told (taken_in (state_of gap start) kind) × Stays (move (state_of gap start) kind (get_or text p 0) p x.folded)
  each_stays Outside start x h n = outside_stays _ x.folded (outside_is classes text x) h n
  each_stays (Comment depth) start {p = p} {kind = kind} x h n = (tt, in_comment_lem kind depth start p)
  each_stays (Taking depth) start {p = p} {kind = kind} x h n = (tt, taking kind depth start p)

  -- one character on
  goes_on : {at p q : ℕ} {kind : ByteKind} (state : State) (x : FirstCharacter classes text at kind p q) → q ≤ place → None at state → Stays (move state kind (get_or text p 0) p x.folded)
      → ((gap : Gap) (start : ℕ) → None q (state_of gap start) → ToldFrom q (state_of gap start)) → ToldFrom at state
  goes_on state x h n (stays gap start e) f = rw (moves_on x state place h, e, stays_on) (f gap start (rw (moves x state _ e) at n))
  goes_on state x h n (halts number r e) f = absurd (rw (moves x state _ e) at n)

  by_view : (at : ℕ) (gap : Gap) (start : ℕ) → View classes text at → at ≤ place → place < length text → None at (state_of gap start)
      → ((q : ℕ) → at < q → q ≤ place → (gap : Gap) (start : ℕ) → None q (state_of gap start) → ToldFrom q (state_of gap start)) → ToldFrom at (state_of gap start)
  by_view at gap start (over e) h k n f = absurd (omega (arith, none_left text at e))
  by_view at gap start (one {q = q} x) h k n f =
      let (t, m) = each_stays gap start x h n in
      elim (dec_lt place q) [
        | yes l ↦ rw (tells x (state_of gap start) place l) t
        | no l ↦ goes_on (state_of gap start) x (omega arith) n m (f q (omega (arith, x.from, x.behind)) (omega arith))
      ]

  walk : (n at : ℕ) (gap : Gap) (start : ℕ) → place ≤ at + n → at ≤ place → place < length text → None at (state_of gap start) → ToldFrom at (state_of gap start)
  walk zero at gap start m h k o = by_view at gap start (view classes text at) h k o (λ q a b. absurd (omega arith))
  walk (suc n) at gap start m h k o = by_view at gap start (view classes text at) h k o (λ q a b g s. walk n q g s (omega arith) b k)

  -- whether symbols stand apart is all the same
  none_parted : (from : ℕ) (s : Scanned) → NoneUpTo place (parted from s) → NoneUpTo place s
  unfolding parted
  none_parted from ended n = n
  none_parted from (next x rest) n = n
  none_parted from (fault_at number p) n = n

  -- a byte before the first symbol
  pub between_told : (at : ℕ) → at ≤ place → place < length text → NoneUpTo place (scan_by classes text at) → ToldFrom at outside
  between_told at h k n = walk place at Outside 0 (omega arith) h k (none_parted at _ n)

  -- ---- in a text

  -- the place lies in no symbol that fits no rule
  abbrev OffStray : ℕ → Type 0
  OffStray at = InStray place (symbols_of (scan_by classes text at)) → ⊥

  abbrev ToldIn : ℕ → Type 0
  ToldIn at = Told (category_of classes text place at (scan_by classes text at))

  in_symbol : {at : ℕ} {class : Class} {start end : ℕ} → SymbolAt classes text at class start end → OffStray at → start ≤ place → place < end → class ≡ Stray → ⊥
  unfolding symbols_of
  in_symbol x n h k e = n (rw x.same (here e h k))

  behind_symbol : {at : ℕ} {class : Class} {start end : ℕ} → SymbolAt classes text at class start end → OffStray at → OffStray end
  unfolding symbols_of
  behind_symbol x n i = n (rw x.same (further i))

  by_symbol : (at : ℕ) → Unfolded classes text at → at ≤ place → place < length text → Faultless classes text at → OffStray at
      → ((q : ℕ) → at < q → q ≤ place → Faultless classes text q → OffStray q → ToldIn q) → ToldIn at
  by_symbol at (no_symbol e) h k c n f = rw (category_over classes text at place e) (between_told at h k (rw e tt))
  by_symbol at (a_symbol {class} {start} {end} x) h k c n f =
      elim (dec_lt place start) [
        | yes l ↦ rw (category_before x place l) (between_told at h k (rw x.same l))
        | no l ↦ elim (dec_lt place end) [
          | yes m ↦ rw (category_in x place (omega arith) m) (symbol_told class (part text start end) (in_symbol x n (omega arith) m))
          | no m ↦ rw (category_behind x place (omega arith))
              (f end (omega (arith, x.from, x.starts)) (omega arith) (faultless_on classes text c x) (behind_symbol x n))
        ]
      ]
  by_symbol at (a_fault e) h k c n f = absurd (no_fault _ c.none e)

  run : (n at : ℕ) → place ≤ at + n → at ≤ place → place < length text → Faultless classes text at → OffStray at → ToldIn at
  run zero at m h k c o = by_symbol at (unfolded classes text at) h k c o (λ q a b. absurd (omega arith))
  run (suc n) at m h k c o = by_symbol at (unfolded classes text at) h k c o (λ q a b. run n q (omega arith) b k)

-- ---- in a body

pub told_unless_stray : (message : List ℕ) (start end : ℕ) → ToldUnlessStray message start end
told_unless_stray message start end e place h k n =
    let x : Clean message start end = clean message start end (Accepted 0) (sym e) (hit (0 ∷ 2 ∷ []) 0 tt) in
    rw (category_inside message start end place x h k)
    (run class_table (take end message) place place start (omega arith) h (omega (arith, length-take-le end message x.inside)) (record { none = x.faultless }) n)
