-- A character of a quoted-string, a domain literal or a comment: the faults there, and what it does where it is none. Assumes nothing.
use mathlib.Core.Path.{◌≡◌, refl, ◌∙◌}
use mathlib.Core.List.{List, [], ◌∷◌}
use Prim.Native.Nat.{ℕ, ◌+◌, ◌-◌, ◌≤◌, ◌<◌}
use native.Mathlib.Omega.{arith}
use lib.ListN.{length}
use types.Run.{hit}
use Rattle.std.specs.Prelude.{Bool, Result, Err}
use Rattle.octets.specs.Believed.Numbers.{byte_above_127, stray_control}
use Rattle.octets.specs.declared.answers.Fault.{Fault}
use Rattle.scanner.specs.Believed.Characters.{characters_at}
use Rattle.scanner.specs.Believed.Scanning.{Scanned, State, outside, in_atom, in_quoted, taking_in_quoted, in_literal, taking_in_literal, in_comment, taking_in_comment, go, halt, fault_at, at_end, scan_from, parted}
use Rattle.scanner.specs.Ties.Steps.{FirstIs, FirstCharacter, NotClosed, taking, TakenIs, Inside, alone, with_taken, InsideIs}
use Rattle.scanner.specs.declared.Symbol.{Symbol}
use Rattle.scanner.specs.declared.ByteKind.{ByteKind}
use Rattle.scanner.specs.declared.ByteKind.TheVariants.{White, Control, Return, Plain, Open, Close, Quote, Backslash, Mark, Above, OpenBracket, CloseBracket}
use Rattle.scanner.proofs.MoveLaws.{at_end_lem, moves, NotPlain, Data, Text, Taken, LiteralText, Counting, counting_on, counting_taken, InLiteral, literal_on, literal_taken, Commenting, comment_on, comment_taken}

-- ---- the text ends

end_inside : (state : State) (unclosed : Fault) → NotClosed state unclosed → at_end state ≡ fault_at unclosed.number unclosed.position
end_inside outside unclosed n = absurd n
end_inside (in_atom start end t) unclosed n = absurd n
end_inside (in_quoted start t) unclosed n = rw n
end_inside (taking_in_quoted start t) unclosed n = absurd n
end_inside (in_literal start) unclosed n = rw n
end_inside (taking_in_literal start) unclosed n = absurd n
end_inside (in_comment depth start) unclosed n = rw n
end_inside (taking_in_comment depth start) unclosed n = absurd n

end_taking : (state : State) (unclosed : Fault) → NotClosed state unclosed → at_end (taking state) ≡ fault_at unclosed.number unclosed.position
end_taking outside unclosed n = absurd n
end_taking (in_atom start end t) unclosed n = absurd n
end_taking (in_quoted start t) unclosed n = rw n
end_taking (taking_in_quoted start t) unclosed n = absurd n
end_taking (in_literal start) unclosed n = rw n
end_taking (taking_in_literal start) unclosed n = absurd n
end_taking (in_comment depth start) unclosed n = rw n
end_taking (taking_in_comment depth start) unclosed n = absurd n

module _ (classes text : List ℕ) (at : ℕ) (unclosed : Fault) (e : characters_at text at ≡ []) where
  pub ends_inside : (r : Result _ Fault) → r ≡ Err unclosed → InsideIs classes text at unclosed r
  ends_inside r h = rw h (λ state n. at_end_lem classes text at state e ∙ end_inside state unclosed n)

  pub ends_taken : (r : Result ℕ Fault) → r ≡ Err unclosed → TakenIs classes text at unclosed r
  ends_taken r h = rw h (λ state n. at_end_lem classes text at (taking state) e ∙ end_taking state unclosed n)

-- ---- a fault of one character, and a backslash

module _ {classes text : List ℕ} {at p q : ℕ} where
  pub return_inside : FirstCharacter classes text at Return p q → (state : State) (unclosed : Fault) → NotClosed state unclosed → scan_from classes (characters_at text at) state ≡ fault_at stray_control p
  return_inside x outside unclosed n = absurd n
  return_inside x (in_atom start end t) unclosed n = absurd n
  return_inside x (in_quoted start t) unclosed n = moves x (in_quoted start t) (halt [] stray_control _) refl
  return_inside x (taking_in_quoted start t) unclosed n = absurd n
  return_inside x (in_literal start) unclosed n = moves x (in_literal start) (halt [] stray_control _) refl
  return_inside x (taking_in_literal start) unclosed n = absurd n
  return_inside x (in_comment depth start) unclosed n = moves x (in_comment depth start) (halt [] stray_control _) refl
  return_inside x (taking_in_comment depth start) unclosed n = absurd n

  pub above_inside : FirstCharacter classes text at Above p q → (state : State) (unclosed : Fault) → NotClosed state unclosed → scan_from classes (characters_at text at) state ≡ fault_at byte_above_127 p
  above_inside x outside unclosed n = absurd n
  above_inside x (in_atom start end t) unclosed n = absurd n
  above_inside x (in_quoted start t) unclosed n = moves x (in_quoted start t) (halt [] byte_above_127 _) refl
  above_inside x (taking_in_quoted start t) unclosed n = absurd n
  above_inside x (in_literal start) unclosed n = moves x (in_literal start) (halt [] byte_above_127 _) refl
  above_inside x (taking_in_literal start) unclosed n = absurd n
  above_inside x (in_comment depth start) unclosed n = moves x (in_comment depth start) (halt [] byte_above_127 _) refl
  above_inside x (taking_in_comment depth start) unclosed n = absurd n

  pub above_taken : FirstCharacter classes text at Above p q → (state : State) (unclosed : Fault) → NotClosed state unclosed → scan_from classes (characters_at text at) (taking state) ≡ fault_at byte_above_127 p
  above_taken x outside unclosed n = absurd n
  above_taken x (in_atom start end t) unclosed n = absurd n
  above_taken x (in_quoted start t) unclosed n = moves x (taking_in_quoted start t) (halt [] byte_above_127 _) refl
  above_taken x (taking_in_quoted start t) unclosed n = absurd n
  above_taken x (in_literal start) unclosed n = moves x (taking_in_literal start) (halt [] byte_above_127 _) refl
  above_taken x (taking_in_literal start) unclosed n = absurd n
  above_taken x (in_comment depth start) unclosed n = moves x (taking_in_comment depth start) (halt [] byte_above_127 _) refl
  above_taken x (taking_in_comment depth start) unclosed n = absurd n

  pub backslash_inside : FirstCharacter classes text at Backslash p q → (state : State) (unclosed : Fault) → NotClosed state unclosed → scan_from classes (characters_at text at) state ≡ scan_from classes (characters_at text q) (taking state)
  backslash_inside x outside unclosed n = absurd n
  backslash_inside x (in_atom start end t) unclosed n = absurd n
  backslash_inside x (in_quoted start t) unclosed n = moves x (in_quoted start t) (go [] (taking_in_quoted start t)) refl
  backslash_inside x (taking_in_quoted start t) unclosed n = absurd n
  backslash_inside x (in_literal start) unclosed n = moves x (in_literal start) (go [] (taking_in_literal start)) refl
  backslash_inside x (taking_in_literal start) unclosed n = absurd n
  backslash_inside x (in_comment depth start) unclosed n = moves x (in_comment depth start) (go [] (taking_in_comment depth start)) refl
  backslash_inside x (taking_in_comment depth start) unclosed n = absurd n

-- a fault is what comes first
pub fault_first : (apart : Bool) (start : ℕ) {s : Scanned} {r : Result Symbol Fault} {f : Fault} → r ≡ Err f → s ≡ fault_at f.number f.position → FirstIs apart start s r
unfolding parted
fault_first apart start e h from a = rw (e, h)

-- ---- the kinds that are no fault there

pub not_plain : (kind : ByteKind) → (kind ≡ Plain → ⊥) → NotPlain kind
not_plain White n = hit (0 ∷ 1 ∷ 2 ∷ 4 ∷ 5 ∷ 6 ∷ 7 ∷ 8 ∷ 9 ∷ 10 ∷ 11 ∷ []) 0 tt
not_plain Control n = hit (0 ∷ 1 ∷ 2 ∷ 4 ∷ 5 ∷ 6 ∷ 7 ∷ 8 ∷ 9 ∷ 10 ∷ 11 ∷ []) 1 tt
not_plain Return n = hit (0 ∷ 1 ∷ 2 ∷ 4 ∷ 5 ∷ 6 ∷ 7 ∷ 8 ∷ 9 ∷ 10 ∷ 11 ∷ []) 2 tt
not_plain Plain n = absurd (n refl)
not_plain Open n = hit (0 ∷ 1 ∷ 2 ∷ 4 ∷ 5 ∷ 6 ∷ 7 ∷ 8 ∷ 9 ∷ 10 ∷ 11 ∷ []) 4 tt
not_plain Close n = hit (0 ∷ 1 ∷ 2 ∷ 4 ∷ 5 ∷ 6 ∷ 7 ∷ 8 ∷ 9 ∷ 10 ∷ 11 ∷ []) 5 tt
not_plain Quote n = hit (0 ∷ 1 ∷ 2 ∷ 4 ∷ 5 ∷ 6 ∷ 7 ∷ 8 ∷ 9 ∷ 10 ∷ 11 ∷ []) 6 tt
not_plain Backslash n = hit (0 ∷ 1 ∷ 2 ∷ 4 ∷ 5 ∷ 6 ∷ 7 ∷ 8 ∷ 9 ∷ 10 ∷ 11 ∷ []) 7 tt
not_plain (Mark class) n = hit (0 ∷ 1 ∷ 2 ∷ 4 ∷ 5 ∷ 6 ∷ 7 ∷ 8 ∷ 9 ∷ 10 ∷ 11 ∷ []) 8 tt
not_plain Above n = hit (0 ∷ 1 ∷ 2 ∷ 4 ∷ 5 ∷ 6 ∷ 7 ∷ 8 ∷ 9 ∷ 10 ∷ 11 ∷ []) 9 tt
not_plain OpenBracket n = hit (0 ∷ 1 ∷ 2 ∷ 4 ∷ 5 ∷ 6 ∷ 7 ∷ 8 ∷ 9 ∷ 10 ∷ 11 ∷ []) 10 tt
not_plain CloseBracket n = hit (0 ∷ 1 ∷ 2 ∷ 4 ∷ 5 ∷ 6 ∷ 7 ∷ 8 ∷ 9 ∷ 10 ∷ 11 ∷ []) 11 tt

data_kind : (kind : ByteKind) → (kind ≡ Return → ⊥) → (kind ≡ Above → ⊥) → (kind ≡ Backslash → ⊥) → (kind ≡ Quote → ⊥) → Data kind
data_kind White r a b n = hit (0 ∷ 1 ∷ 3 ∷ 4 ∷ 5 ∷ 8 ∷ 10 ∷ 11 ∷ []) 0 tt
data_kind Control r a b n = hit (0 ∷ 1 ∷ 3 ∷ 4 ∷ 5 ∷ 8 ∷ 10 ∷ 11 ∷ []) 1 tt
data_kind Return r a b n = absurd (r refl)
data_kind Plain r a b n = hit (0 ∷ 1 ∷ 3 ∷ 4 ∷ 5 ∷ 8 ∷ 10 ∷ 11 ∷ []) 3 tt
data_kind Open r a b n = hit (0 ∷ 1 ∷ 3 ∷ 4 ∷ 5 ∷ 8 ∷ 10 ∷ 11 ∷ []) 4 tt
data_kind Close r a b n = hit (0 ∷ 1 ∷ 3 ∷ 4 ∷ 5 ∷ 8 ∷ 10 ∷ 11 ∷ []) 5 tt
data_kind Quote r a b n = absurd (n refl)
data_kind Backslash r a b n = absurd (b refl)
data_kind (Mark class) r a b n = hit (0 ∷ 1 ∷ 3 ∷ 4 ∷ 5 ∷ 8 ∷ 10 ∷ 11 ∷ []) 8 tt
data_kind Above r a b n = absurd (a refl)
data_kind OpenBracket r a b n = hit (0 ∷ 1 ∷ 3 ∷ 4 ∷ 5 ∷ 8 ∷ 10 ∷ 11 ∷ []) 10 tt
data_kind CloseBracket r a b n = hit (0 ∷ 1 ∷ 3 ∷ 4 ∷ 5 ∷ 8 ∷ 10 ∷ 11 ∷ []) 11 tt

pub literal_kind : (kind : ByteKind) → (kind ≡ Return → ⊥) → (kind ≡ Above → ⊥) → (kind ≡ Backslash → ⊥) → (kind ≡ OpenBracket → ⊥) → (kind ≡ CloseBracket → ⊥) → LiteralText kind
literal_kind White r a b n m = hit (0 ∷ 1 ∷ 3 ∷ 4 ∷ 5 ∷ 6 ∷ 8 ∷ []) 0 tt
literal_kind Control r a b n m = hit (0 ∷ 1 ∷ 3 ∷ 4 ∷ 5 ∷ 6 ∷ 8 ∷ []) 1 tt
literal_kind Return r a b n m = absurd (r refl)
literal_kind Plain r a b n m = hit (0 ∷ 1 ∷ 3 ∷ 4 ∷ 5 ∷ 6 ∷ 8 ∷ []) 3 tt
literal_kind Open r a b n m = hit (0 ∷ 1 ∷ 3 ∷ 4 ∷ 5 ∷ 6 ∷ 8 ∷ []) 4 tt
literal_kind Close r a b n m = hit (0 ∷ 1 ∷ 3 ∷ 4 ∷ 5 ∷ 6 ∷ 8 ∷ []) 5 tt
literal_kind Quote r a b n m = hit (0 ∷ 1 ∷ 3 ∷ 4 ∷ 5 ∷ 6 ∷ 8 ∷ []) 6 tt
literal_kind Backslash r a b n m = absurd (b refl)
literal_kind (Mark class) r a b n m = hit (0 ∷ 1 ∷ 3 ∷ 4 ∷ 5 ∷ 6 ∷ 8 ∷ []) 8 tt
literal_kind Above r a b n m = absurd (a refl)
literal_kind OpenBracket r a b n m = absurd (n refl)
literal_kind CloseBracket r a b n m = absurd (m refl)

pub text_kind : (kind : ByteKind) → (kind ≡ Return → ⊥) → (kind ≡ Above → ⊥) → (kind ≡ Backslash → ⊥) → (kind ≡ Open → ⊥) → (kind ≡ Close → ⊥) → Text kind
text_kind White r a b n m = hit (0 ∷ 1 ∷ 3 ∷ 6 ∷ 8 ∷ 10 ∷ 11 ∷ []) 0 tt
text_kind Control r a b n m = hit (0 ∷ 1 ∷ 3 ∷ 6 ∷ 8 ∷ 10 ∷ 11 ∷ []) 1 tt
text_kind Return r a b n m = absurd (r refl)
text_kind Plain r a b n m = hit (0 ∷ 1 ∷ 3 ∷ 6 ∷ 8 ∷ 10 ∷ 11 ∷ []) 3 tt
text_kind Open r a b n m = absurd (n refl)
text_kind Close r a b n m = absurd (m refl)
text_kind Quote r a b n m = hit (0 ∷ 1 ∷ 3 ∷ 6 ∷ 8 ∷ 10 ∷ 11 ∷ []) 6 tt
text_kind Backslash r a b n m = absurd (b refl)
text_kind (Mark class) r a b n m = hit (0 ∷ 1 ∷ 3 ∷ 6 ∷ 8 ∷ 10 ∷ 11 ∷ []) 8 tt
text_kind Above r a b n m = absurd (a refl)
text_kind OpenBracket r a b n m = hit (0 ∷ 1 ∷ 3 ∷ 6 ∷ 8 ∷ 10 ∷ 11 ∷ []) 10 tt
text_kind CloseBracket r a b n m = hit (0 ∷ 1 ∷ 3 ∷ 6 ∷ 8 ∷ 10 ∷ 11 ∷ []) 11 tt

pub taken_kind : (kind : ByteKind) → (kind ≡ Above → ⊥) → Taken kind
taken_kind White a = hit (0 ∷ 1 ∷ 2 ∷ 3 ∷ 4 ∷ 5 ∷ 6 ∷ 7 ∷ 8 ∷ 10 ∷ 11 ∷ []) 0 tt
taken_kind Control a = hit (0 ∷ 1 ∷ 2 ∷ 3 ∷ 4 ∷ 5 ∷ 6 ∷ 7 ∷ 8 ∷ 10 ∷ 11 ∷ []) 1 tt
taken_kind Return a = hit (0 ∷ 1 ∷ 2 ∷ 3 ∷ 4 ∷ 5 ∷ 6 ∷ 7 ∷ 8 ∷ 10 ∷ 11 ∷ []) 2 tt
taken_kind Plain a = hit (0 ∷ 1 ∷ 2 ∷ 3 ∷ 4 ∷ 5 ∷ 6 ∷ 7 ∷ 8 ∷ 10 ∷ 11 ∷ []) 3 tt
taken_kind Open a = hit (0 ∷ 1 ∷ 2 ∷ 3 ∷ 4 ∷ 5 ∷ 6 ∷ 7 ∷ 8 ∷ 10 ∷ 11 ∷ []) 4 tt
taken_kind Close a = hit (0 ∷ 1 ∷ 2 ∷ 3 ∷ 4 ∷ 5 ∷ 6 ∷ 7 ∷ 8 ∷ 10 ∷ 11 ∷ []) 5 tt
taken_kind Quote a = hit (0 ∷ 1 ∷ 2 ∷ 3 ∷ 4 ∷ 5 ∷ 6 ∷ 7 ∷ 8 ∷ 10 ∷ 11 ∷ []) 6 tt
taken_kind Backslash a = hit (0 ∷ 1 ∷ 2 ∷ 3 ∷ 4 ∷ 5 ∷ 6 ∷ 7 ∷ 8 ∷ 10 ∷ 11 ∷ []) 7 tt
taken_kind (Mark class) a = hit (0 ∷ 1 ∷ 2 ∷ 3 ∷ 4 ∷ 5 ∷ 6 ∷ 7 ∷ 8 ∷ 10 ∷ 11 ∷ []) 8 tt
taken_kind Above a = absurd (a refl)
taken_kind OpenBracket a = hit (0 ∷ 1 ∷ 2 ∷ 3 ∷ 4 ∷ 5 ∷ 6 ∷ 7 ∷ 8 ∷ 10 ∷ 11 ∷ []) 10 tt
taken_kind CloseBracket a = hit (0 ∷ 1 ∷ 2 ∷ 3 ∷ 4 ∷ 5 ∷ 6 ∷ 7 ∷ 8 ∷ 10 ∷ 11 ∷ []) 11 tt

-- ---- such a character

module _ {classes text : List ℕ} where
  pub inside_bounds : {at : ℕ} {kind : ByteKind} {p q : ℕ} → Inside classes text at kind p q → (at ≤ p) × (p < q) × (q ≤ length text)
  inside_bounds (alone x r a b) = (x.from, omega (arith, x.behind), x.within)
  inside_bounds (with_taken x y) = (x.from, omega (arith, x.behind, y.first.from, y.first.behind), y.first.within)

  pub first_inside : {at : ℕ} {kind : ByteKind} {p q : ℕ} → Inside classes text at kind p q → (kind ≡ Backslash → ⊥) → FirstCharacter classes text at kind p q
  first_inside (alone x r a b) n = x
  first_inside (with_taken x y) n = absurd (n refl)

  module _ {start at p : ℕ} where
    pub data_inside : {size q r : ℕ} {kind : ByteKind} → Counting classes text start at p size → Inside classes text p kind q r → (kind ≡ Quote → ⊥) → (kind ≡ Backslash → ⊥) → Counting classes text start at r (size + 1)
    data_inside {kind = kind} w (alone x r a b) n m = counting_on w x (data_kind kind r a b n)
    data_inside w (with_taken x y) n m = absurd (m refl)

    pub data_taken_inside : {size q r : ℕ} → Counting classes text start at p size → Inside classes text p Backslash q r → Counting classes text start at r (size + (r - q - 1))
    data_taken_inside w (alone x r a b) = absurd (b refl)
    data_taken_inside {q = q} {r = r} w (with_taken {q = s} x y) =
        let e : r - s ≡ r - q - 1 = omega (arith, x.behind) in
        rw e at (counting_taken w x y.first (taken_kind y.kind y.not_above))

    pub literal_inside : {q r : ℕ} {kind : ByteKind} → InLiteral classes text start at p → Inside classes text p kind q r → (kind ≡ OpenBracket → ⊥) → (kind ≡ CloseBracket → ⊥) → InLiteral classes text start at r
    literal_inside {kind = kind} w (alone x r a b) n m = literal_on w x (literal_kind kind r a b n m)
    literal_inside w (with_taken x y) n m = literal_taken w x y.first (taken_kind y.kind y.not_above)

    pub comment_inside : {depth q r : ℕ} {kind : ByteKind} → Commenting classes text start at depth p → Inside classes text p kind q r → (kind ≡ Open → ⊥) → (kind ≡ Close → ⊥) → Commenting classes text start at depth r
    comment_inside {kind = kind} w (alone x r a b) n m = comment_on w x (text_kind kind r a b n m)
    comment_inside w (with_taken x y) n m = comment_taken w x y.first (taken_kind y.kind y.not_above)
