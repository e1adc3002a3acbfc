-- What a text scans to is the unfolding of the next_symbol step: a symbol lies in the text, after the position asked, and scanning goes on from its end.
-- Assumes nothing.
use mathlib.Core.Path.{◌≡◌, refl, sym, ap, ◌∙◌}
use mathlib.Core.Bool.{Bool, true, false}
use mathlib.Core.List.{List, [], ◌∷◌, ◌++◌, append_assoc, append-nil}
use Prim.Native.Nat.{ℕ, zero, suc, ◌+◌, ◌-◌, ◌≤◌, ◌<◌}
use native.Mathlib.Decide.{dec_lt}
use native.Mathlib.Omega.{arith}
use lib.Dec.{eqb, ltb}
use lib.ListN.{length, get_or}
use types.Run.{hit}
use Rattle.octets.specs.Believed.Numbers.{quoted_not_closed, comment_not_closed, stray_control, byte_above_127, literal_not_closed}
use Rattle.octets.specs.Believed.Choice.{pick}
use Rattle.octets.specs.Believed.Classes.{white, control, open_parenthesis, close_parenthesis, less_than, greater_than, at_sign, comma, semicolon, colon, backslash, quote, above127, dot, open_bracket, close_bracket}
use Rattle.octets.specs.Believed.Letters.{same_letters}
use Rattle.octets.specs.Believed.Text.{bytes, part}
use Rattle.scanner.specs.Believed.Kinds.{kind_of_class, kind_of, character_kind}
use Rattle.scanner.specs.Believed.Characters.{characters_at}
use Rattle.scanner.specs.Believed.Scanning.{ended, next, fault_at, outside, in_quoted, taking_in_quoted, in_literal, taking_in_literal, in_comment, taking_in_comment, go, halt, symbol, atom_class, scan_from, apart_from, parted, scan_by}
use Rattle.scanner.specs.Believed.Answers.{found_at, next_of, unless_fault, fault_of}
use Rattle.scanner.specs.Ties.Steps.{outside_at, FirstCharacter, AtomEnds, CommentEnds, Faultless}
use Rattle.scanner.specs.declared.Class.{Class}
use Rattle.scanner.specs.declared.Class.TheVariants.{Atom, Quoted, At, LessThan, GreaterThan, Comma, Semicolon, Colon, Stray, Dot, Literal}
use Rattle.scanner.specs.declared.Symbol.{Symbol as Placed}
use Rattle.scanner.specs.declared.Next.TheVariants.{Ended, Fault}
use Rattle.scanner.specs.declared.ByteKind.{ByteKind}
use Rattle.scanner.specs.declared.ByteKind.TheVariants.{White, Control, Return, Plain, Open, Close, Quote, Backslash, Mark, Above, OpenBracket, CloseBracket}
use Rattle.scanner.proofs.CharacterLaws.{View, over, one, view}
use Rattle.scanner.proofs.MoveLaws.{tag, part_one, NotPlain, Data, Taken, at_end_lem, moves, atom_on, atom_begins, atom_ends, atom_last, Quoting, quoted_moves, quoted_on, quoted_taking, quoted_taken, InLiteral, literal_moves, literal_on, literal_taking, literal_taken, Commenting, comment_moves, comment_on, comment_opens, comment_closes, comment_over, comment_taking, comment_taken, mark_next, stray_next, control_next}
use Rattle.scanner.specs.Ties.Meanings.{data_at, meaning_at}
use Rattle.scanner.proofs.Meanings.{AsData, data_on, data_backslash, data_taken, data_quote}

module _ (classes text : List ℕ) where
  -- ---- an atom ends

  record Ends (start at : ℕ) : Type 0 where
    end : ℕ
    is : AtomEnds classes text start at end

  atom_further : {start at p q : ℕ} → start ≤ at → FirstCharacter classes text at Plain p q → Ends start q → Ends start at
  atom_further {start} l x e =
      record { end = e.end; is = record { same = atom_on start l x ∙ e.is.same; from = omega (arith, x.from, x.behind, e.is.from); within = e.is.within } }

  atom_here : {start at p q : ℕ} {kind : ByteKind} → at ≤ length text → FirstCharacter classes text at kind p q → NotPlain kind → Ends start at
  atom_here {start} {at} h x o = record { end = at; is = record { same = atom_ends start (part text start at) x o; from = omega arith; within = h } }

  atom_by : (start at : ℕ) {p q : ℕ} (kind : ByteKind) → start ≤ at → at ≤ length text → FirstCharacter classes text at kind p q → Ends start q → Ends start at
  atom_by start at White l h x e = atom_here h x (hit (0 ∷ 1 ∷ 2 ∷ 4 ∷ 5 ∷ 6 ∷ 7 ∷ 8 ∷ 9 ∷ 10 ∷ 11 ∷ []) 0 tt)
  atom_by start at Control l h x e = atom_here h x (hit (0 ∷ 1 ∷ 2 ∷ 4 ∷ 5 ∷ 6 ∷ 7 ∷ 8 ∷ 9 ∷ 10 ∷ 11 ∷ []) 1 tt)
  atom_by start at Return l h x e = atom_here h x (hit (0 ∷ 1 ∷ 2 ∷ 4 ∷ 5 ∷ 6 ∷ 7 ∷ 8 ∷ 9 ∷ 10 ∷ 11 ∷ []) 2 tt)
  atom_by start at Plain l h x e = atom_further l x e
  atom_by start at Open l h x e = atom_here h x (hit (0 ∷ 1 ∷ 2 ∷ 4 ∷ 5 ∷ 6 ∷ 7 ∷ 8 ∷ 9 ∷ 10 ∷ 11 ∷ []) 4 tt)
  atom_by start at Close l h x e = atom_here h x (hit (0 ∷ 1 ∷ 2 ∷ 4 ∷ 5 ∷ 6 ∷ 7 ∷ 8 ∷ 9 ∷ 10 ∷ 11 ∷ []) 5 tt)
  atom_by start at Quote l h x e = atom_here h x (hit (0 ∷ 1 ∷ 2 ∷ 4 ∷ 5 ∷ 6 ∷ 7 ∷ 8 ∷ 9 ∷ 10 ∷ 11 ∷ []) 6 tt)
  atom_by start at Backslash l h x e = atom_here h x (hit (0 ∷ 1 ∷ 2 ∷ 4 ∷ 5 ∷ 6 ∷ 7 ∷ 8 ∷ 9 ∷ 10 ∷ 11 ∷ []) 7 tt)
  atom_by start at (Mark class) l h x e = atom_here h x (hit (0 ∷ 1 ∷ 2 ∷ 4 ∷ 5 ∷ 6 ∷ 7 ∷ 8 ∷ 9 ∷ 10 ∷ 11 ∷ []) 8 tt)
  atom_by start at Above l h x e = atom_here h x (hit (0 ∷ 1 ∷ 2 ∷ 4 ∷ 5 ∷ 6 ∷ 7 ∷ 8 ∷ 9 ∷ 10 ∷ 11 ∷ []) 9 tt)
  atom_by start at OpenBracket l h x e = atom_here h x (hit (0 ∷ 1 ∷ 2 ∷ 4 ∷ 5 ∷ 6 ∷ 7 ∷ 8 ∷ 9 ∷ 10 ∷ 11 ∷ []) 10 tt)
  atom_by start at CloseBracket l h x e = atom_here h x (hit (0 ∷ 1 ∷ 2 ∷ 4 ∷ 5 ∷ 6 ∷ 7 ∷ 8 ∷ 9 ∷ 10 ∷ 11 ∷ []) 11 tt)

  atom_view : (start at : ℕ) → start ≤ at → at ≤ length text → View classes text at → ((q : ℕ) → at < q → q ≤ length text → Ends start q) → Ends start at
  atom_view start at l h (over e) f = record { end = at; is = record { same = atom_last classes text start at (part text start at) e; from = omega arith; within = h } }
  atom_view start at l h (one {kind} {q = q} x) f = atom_by start at kind l h x (f q (omega (arith, x.from, x.behind)) x.within)

  -- from any position in an atom, with at most `n` bytes left
  atom_run : (n start at : ℕ) → length text ≤ at + n → start ≤ at → at ≤ length text → Ends start at
  atom_run zero start at m l h = atom_view start at l h (view classes text at) (λ q a b. absurd (omega arith))
  atom_run (suc n) start at m l h = atom_view start at l h (view classes text at) (λ q a b. atom_run n start q (omega arith) (omega arith) b)

  -- ---- a quoted-string closes, or there is a fault

  data Closes (start at : ℕ) : Type 0 where
    closes : (end : ℕ) → scan_from classes (characters_at text at) (in_quoted start []) ≡ next (symbol Quoted start end (data_at classes text at)) (outside_at classes text end)
        → at < end → end ≤ length text → Closes start at
    faulty : (number p : ℕ) → scan_from classes (characters_at text at) (in_quoted start []) ≡ fault_at number p → Closes start at

  -- scanning has come to p, and the data passed are those of the walk
  record Passed (start at p : ℕ) : Type 0 where
    quoting : Quoting classes text start at p
    data_so_far : data_at classes text at ≡ quoting.meaning ++ data_at classes text p
    from : at ≤ p

  passed_data : {start at p q r : ℕ} {kind : ByteKind} → Passed start at p → FirstCharacter classes text p kind q r → Data kind → AsData kind → Passed start at r
  unfolding quoted_on
  passed_data w x o d =
      record { quoting = quoted_on w.quoting x o; data_so_far = w.data_so_far ∙ rw (data_on x d, append_assoc); from = omega (arith, w.from, x.from, x.behind) }

  passed_taken : {start at p q r s u : ℕ} {kind : ByteKind} → Passed start at p → FirstCharacter classes text p Backslash q r → FirstCharacter classes text r kind s u → Taken kind → Passed start at u
  unfolding quoted_taken
  passed_taken w x y o =
      record {
        quoting = quoted_taken w.quoting x y o;
        data_so_far = w.data_so_far ∙ rw (data_backslash x, data_taken y, append_assoc);
        from = omega (arith, w.from, x.from, x.behind, y.from, y.behind);
      }

  closing : {start at p q r : ℕ} → Passed start at p → FirstCharacter classes text p Quote q r → Closes start at
  closing {start} {at} {p} {q} {r} w x =
      let m : w.quoting.meaning ≡ data_at classes text at = sym (w.data_so_far ∙ rw (data_quote x, append-nil)) in
      closes r
      (quoted_moves w.quoting x (go (symbol Quoted start (q + 1) w.quoting.meaning ∷ []) outside) refl ∙ rw (x.behind, m))
      (omega (arith, w.from, x.from, x.behind)) x.within

  -- the character after a backslash
  taking_by : (start at p : ℕ) {q r s u : ℕ} (kind : ByteKind) → Passed start at p → FirstCharacter classes text p Backslash q r → FirstCharacter classes text r kind s u → (Passed start at u → Closes start at) → Closes start at
  taking_by start at p White w x y f = f (passed_taken w x y (hit (0 ∷ 1 ∷ 2 ∷ 3 ∷ 4 ∷ 5 ∷ 6 ∷ 7 ∷ 8 ∷ 10 ∷ 11 ∷ []) 0 tt))
  taking_by start at p Control w x y f = f (passed_taken w x y (hit (0 ∷ 1 ∷ 2 ∷ 3 ∷ 4 ∷ 5 ∷ 6 ∷ 7 ∷ 8 ∷ 10 ∷ 11 ∷ []) 1 tt))
  taking_by start at p Return w x y f = f (passed_taken w x y (hit (0 ∷ 1 ∷ 2 ∷ 3 ∷ 4 ∷ 5 ∷ 6 ∷ 7 ∷ 8 ∷ 10 ∷ 11 ∷ []) 2 tt))
  taking_by start at p Plain w x y f = f (passed_taken w x y (hit (0 ∷ 1 ∷ 2 ∷ 3 ∷ 4 ∷ 5 ∷ 6 ∷ 7 ∷ 8 ∷ 10 ∷ 11 ∷ []) 3 tt))
  taking_by start at p Open w x y f = f (passed_taken w x y (hit (0 ∷ 1 ∷ 2 ∷ 3 ∷ 4 ∷ 5 ∷ 6 ∷ 7 ∷ 8 ∷ 10 ∷ 11 ∷ []) 4 tt))
  taking_by start at p Close w x y f = f (passed_taken w x y (hit (0 ∷ 1 ∷ 2 ∷ 3 ∷ 4 ∷ 5 ∷ 6 ∷ 7 ∷ 8 ∷ 10 ∷ 11 ∷ []) 5 tt))
  taking_by start at p Quote w x y f = f (passed_taken w x y (hit (0 ∷ 1 ∷ 2 ∷ 3 ∷ 4 ∷ 5 ∷ 6 ∷ 7 ∷ 8 ∷ 10 ∷ 11 ∷ []) 6 tt))
  taking_by start at p Backslash w x y f = f (passed_taken w x y (hit (0 ∷ 1 ∷ 2 ∷ 3 ∷ 4 ∷ 5 ∷ 6 ∷ 7 ∷ 8 ∷ 10 ∷ 11 ∷ []) 7 tt))
  taking_by start at p (Mark class) w x y f = f (passed_taken w x y (hit (0 ∷ 1 ∷ 2 ∷ 3 ∷ 4 ∷ 5 ∷ 6 ∷ 7 ∷ 8 ∷ 10 ∷ 11 ∷ []) 8 tt))
  taking_by start at p Above w x y f = faulty byte_above_127 _ (quoted_taking w.quoting x y (halt [] byte_above_127 _) refl)
  taking_by start at p OpenBracket w x y f = f (passed_taken w x y (hit (0 ∷ 1 ∷ 2 ∷ 3 ∷ 4 ∷ 5 ∷ 6 ∷ 7 ∷ 8 ∷ 10 ∷ 11 ∷ []) 10 tt))
  taking_by start at p CloseBracket w x y f = f (passed_taken w x y (hit (0 ∷ 1 ∷ 2 ∷ 3 ∷ 4 ∷ 5 ∷ 6 ∷ 7 ∷ 8 ∷ 10 ∷ 11 ∷ []) 11 tt))

  taking_view : (start at p : ℕ) {q r : ℕ} → Passed start at p → FirstCharacter classes text p Backslash q r → View classes text r
      → ((u : ℕ) → p < u → u ≤ length text → Passed start at u → Closes start at) → Closes start at
  taking_view start at p {r = r} w x (over e) f =
      faulty quoted_not_closed start (quoted_moves w.quoting x (go [] (taking_in_quoted start w.quoting.meaning)) refl ∙ at_end_lem classes text r _ e)
  taking_view start at p w x (one {kind} {q = u} y) f = taking_by start at p kind w x y (λ z. f u (omega (arith, x.from, x.behind, y.from, y.behind)) y.within z)

  quoted_by : (start at p : ℕ) {q r : ℕ} (kind : ByteKind) → Passed start at p → FirstCharacter classes text p kind q r → View classes text r
      → ((u : ℕ) → p < u → u ≤ length text → Passed start at u → Closes start at) → Closes start at
  quoted_by start at p {r = r} White w x v f = f r (omega (arith, x.from, x.behind)) x.within (passed_data w x (hit (0 ∷ 1 ∷ 3 ∷ 4 ∷ 5 ∷ 8 ∷ 10 ∷ 11 ∷ []) 0 tt) (λ b f. (refl, refl)))
  quoted_by start at p {r = r} Control w x v f = f r (omega (arith, x.from, x.behind)) x.within (passed_data w x (hit (0 ∷ 1 ∷ 3 ∷ 4 ∷ 5 ∷ 8 ∷ 10 ∷ 11 ∷ []) 1 tt) (λ b f. (refl, refl)))
  quoted_by start at p {r = r} Return w x v f = faulty stray_control _ (quoted_moves w.quoting x (halt [] stray_control _) refl)
  quoted_by start at p {r = r} Plain w x v f = f r (omega (arith, x.from, x.behind)) x.within (passed_data w x (hit (0 ∷ 1 ∷ 3 ∷ 4 ∷ 5 ∷ 8 ∷ 10 ∷ 11 ∷ []) 3 tt) (λ b f. (refl, refl)))
  quoted_by start at p {r = r} Open w x v f = f r (omega (arith, x.from, x.behind)) x.within (passed_data w x (hit (0 ∷ 1 ∷ 3 ∷ 4 ∷ 5 ∷ 8 ∷ 10 ∷ 11 ∷ []) 4 tt) (λ b f. (refl, refl)))
  quoted_by start at p {r = r} Close w x v f = f r (omega (arith, x.from, x.behind)) x.within (passed_data w x (hit (0 ∷ 1 ∷ 3 ∷ 4 ∷ 5 ∷ 8 ∷ 10 ∷ 11 ∷ []) 5 tt) (λ b f. (refl, refl)))
  quoted_by start at p {r = r} Quote w x v f = closing w x
  quoted_by start at p {r = r} Backslash w x v f = taking_view start at p w x v f
  quoted_by start at p {r = r} (Mark class) w x v f = f r (omega (arith, x.from, x.behind)) x.within (passed_data w x (hit (0 ∷ 1 ∷ 3 ∷ 4 ∷ 5 ∷ 8 ∷ 10 ∷ 11 ∷ []) 8 tt) (λ b f. (refl, refl)))
  quoted_by start at p {r = r} Above w x v f = faulty byte_above_127 _ (quoted_moves w.quoting x (halt [] byte_above_127 _) refl)
  quoted_by start at p {r = r} OpenBracket w x v f = f r (omega (arith, x.from, x.behind)) x.within (passed_data w x (hit (0 ∷ 1 ∷ 3 ∷ 4 ∷ 5 ∷ 8 ∷ 10 ∷ 11 ∷ []) 10 tt) (λ b f. (refl, refl)))
  quoted_by start at p {r = r} CloseBracket w x v f = f r (omega (arith, x.from, x.behind)) x.within (passed_data w x (hit (0 ∷ 1 ∷ 3 ∷ 4 ∷ 5 ∷ 8 ∷ 10 ∷ 11 ∷ []) 11 tt) (λ b f. (refl, refl)))

  quoted_view : (start at p : ℕ) → Passed start at p → View classes text p → ((u : ℕ) → p < u → u ≤ length text → Passed start at u → Closes start at) → Closes start at
  quoted_view start at p w (over e) f = faulty quoted_not_closed start (w.quoting.same ∙ at_end_lem classes text p _ e)
  quoted_view start at p w (one {kind} {q = r} x) f = quoted_by start at p kind w x (view classes text r) f

  quoted_run : (n start at p : ℕ) → length text ≤ p + n → Passed start at p → Closes start at
  quoted_run zero start at p m w = quoted_view start at p w (view classes text p) (λ u a b z. absurd (omega arith))
  quoted_run (suc n) start at p m w = quoted_view start at p w (view classes text p) (λ u a b z. quoted_run n start at u (omega arith) z)

  -- ---- a comment ends, or there is a fault

  data Leaves (start at : ℕ) : Type 0 where
    leaves : (end : ℕ) → CommentEnds classes text at start end → Leaves start at
    faulty : (number p : ℕ) → scan_from classes (characters_at text at) (in_comment 0 start) ≡ fault_at number p → Leaves start at

  record Within (start at depth p : ℕ) : Type 0 where
    commenting : Commenting classes text start at depth p
    from : at ≤ p

  leaving : (start at depth p : ℕ) {q r : ℕ} → Within start at depth p → FirstCharacter classes text p Close q r → ((depth' : ℕ) → Within start at depth' r → Leaves start at) → Leaves start at
  leaving start at depth p {r = r} w x f =
      elim (dec_lt 0 depth) [
        | yes h ↦ f (depth - 1) record { commenting = comment_closes w.commenting x (λ e. absurd (omega arith)); from = omega (arith, w.from, x.from, x.behind) }
        | no n ↦ leaves r record { same = comment_over w.commenting x (omega arith); from = omega (arith, w.from, x.from, x.behind); within = x.within }
      ]

  escaped_by : (start at depth p : ℕ) {q r s u : ℕ} (kind : ByteKind) → Within start at depth p → FirstCharacter classes text p Backslash q r → FirstCharacter classes text r kind s u
      → (Within start at depth u → Leaves start at) → Leaves start at
  escaped_by start at depth p White w x y f = f record { commenting = comment_taken w.commenting x y (hit (0 ∷ 1 ∷ 2 ∷ 3 ∷ 4 ∷ 5 ∷ 6 ∷ 7 ∷ 8 ∷ 10 ∷ 11 ∷ []) 0 tt); from = omega (arith, w.from, x.from, x.behind, y.from, y.behind) }
  escaped_by start at depth p Control w x y f = f record { commenting = comment_taken w.commenting x y (hit (0 ∷ 1 ∷ 2 ∷ 3 ∷ 4 ∷ 5 ∷ 6 ∷ 7 ∷ 8 ∷ 10 ∷ 11 ∷ []) 1 tt); from = omega (arith, w.from, x.from, x.behind, y.from, y.behind) }
  escaped_by start at depth p Return w x y f = f record { commenting = comment_taken w.commenting x y (hit (0 ∷ 1 ∷ 2 ∷ 3 ∷ 4 ∷ 5 ∷ 6 ∷ 7 ∷ 8 ∷ 10 ∷ 11 ∷ []) 2 tt); from = omega (arith, w.from, x.from, x.behind, y.from, y.behind) }
  escaped_by start at depth p Plain w x y f = f record { commenting = comment_taken w.commenting x y (hit (0 ∷ 1 ∷ 2 ∷ 3 ∷ 4 ∷ 5 ∷ 6 ∷ 7 ∷ 8 ∷ 10 ∷ 11 ∷ []) 3 tt); from = omega (arith, w.from, x.from, x.behind, y.from, y.behind) }
  escaped_by start at depth p Open w x y f = f record { commenting = comment_taken w.commenting x y (hit (0 ∷ 1 ∷ 2 ∷ 3 ∷ 4 ∷ 5 ∷ 6 ∷ 7 ∷ 8 ∷ 10 ∷ 11 ∷ []) 4 tt); from = omega (arith, w.from, x.from, x.behind, y.from, y.behind) }
  escaped_by start at depth p Close w x y f = f record { commenting = comment_taken w.commenting x y (hit (0 ∷ 1 ∷ 2 ∷ 3 ∷ 4 ∷ 5 ∷ 6 ∷ 7 ∷ 8 ∷ 10 ∷ 11 ∷ []) 5 tt); from = omega (arith, w.from, x.from, x.behind, y.from, y.behind) }
  escaped_by start at depth p Quote w x y f = f record { commenting = comment_taken w.commenting x y (hit (0 ∷ 1 ∷ 2 ∷ 3 ∷ 4 ∷ 5 ∷ 6 ∷ 7 ∷ 8 ∷ 10 ∷ 11 ∷ []) 6 tt); from = omega (arith, w.from, x.from, x.behind, y.from, y.behind) }
  escaped_by start at depth p Backslash w x y f = f record { commenting = comment_taken w.commenting x y (hit (0 ∷ 1 ∷ 2 ∷ 3 ∷ 4 ∷ 5 ∷ 6 ∷ 7 ∷ 8 ∷ 10 ∷ 11 ∷ []) 7 tt); from = omega (arith, w.from, x.from, x.behind, y.from, y.behind) }
  escaped_by start at depth p (Mark class) w x y f = f record { commenting = comment_taken w.commenting x y (hit (0 ∷ 1 ∷ 2 ∷ 3 ∷ 4 ∷ 5 ∷ 6 ∷ 7 ∷ 8 ∷ 10 ∷ 11 ∷ []) 8 tt); from = omega (arith, w.from, x.from, x.behind, y.from, y.behind) }
  escaped_by start at depth p Above w x y f = faulty byte_above_127 _ (comment_taking w.commenting x y (halt [] byte_above_127 _) refl)
  escaped_by start at depth p OpenBracket w x y f = f record { commenting = comment_taken w.commenting x y (hit (0 ∷ 1 ∷ 2 ∷ 3 ∷ 4 ∷ 5 ∷ 6 ∷ 7 ∷ 8 ∷ 10 ∷ 11 ∷ []) 10 tt); from = omega (arith, w.from, x.from, x.behind, y.from, y.behind) }
  escaped_by start at depth p CloseBracket w x y f = f record { commenting = comment_taken w.commenting x y (hit (0 ∷ 1 ∷ 2 ∷ 3 ∷ 4 ∷ 5 ∷ 6 ∷ 7 ∷ 8 ∷ 10 ∷ 11 ∷ []) 11 tt); from = omega (arith, w.from, x.from, x.behind, y.from, y.behind) }

  escaped_view : (start at depth p : ℕ) {q r : ℕ} → Within start at depth p → FirstCharacter classes text p Backslash q r → View classes text r
      → ((u depth' : ℕ) → p < u → u ≤ length text → Within start at depth' u → Leaves start at) → Leaves start at
  escaped_view start at depth p {r = r} w x (over e) f =
      faulty comment_not_closed start (comment_moves w.commenting x (go [] (taking_in_comment depth start)) refl ∙ at_end_lem classes text r _ e)
  escaped_view start at depth p w x (one {kind} {q = u} y) f = escaped_by start at depth p kind w x y (λ z. f u depth (omega (arith, x.from, x.behind, y.from, y.behind)) y.within z)

  comment_by : (start at depth p : ℕ) {q r : ℕ} (kind : ByteKind) → Within start at depth p → FirstCharacter classes text p kind q r → View classes text r
      → ((u depth' : ℕ) → p < u → u ≤ length text → Within start at depth' u → Leaves start at) → Leaves start at
  comment_by start at depth p {r = r} White w x v f = f r depth (omega (arith, x.from, x.behind)) x.within record { commenting = comment_on w.commenting x (hit (0 ∷ 1 ∷ 3 ∷ 6 ∷ 8 ∷ 10 ∷ 11 ∷ []) 0 tt); from = omega (arith, w.from, x.from, x.behind) }
  comment_by start at depth p {r = r} Control w x v f = f r depth (omega (arith, x.from, x.behind)) x.within record { commenting = comment_on w.commenting x (hit (0 ∷ 1 ∷ 3 ∷ 6 ∷ 8 ∷ 10 ∷ 11 ∷ []) 1 tt); from = omega (arith, w.from, x.from, x.behind) }
  comment_by start at depth p {r = r} Return w x v f = faulty stray_control _ (comment_moves w.commenting x (halt [] stray_control _) refl)
  comment_by start at depth p {r = r} Plain w x v f = f r depth (omega (arith, x.from, x.behind)) x.within record { commenting = comment_on w.commenting x (hit (0 ∷ 1 ∷ 3 ∷ 6 ∷ 8 ∷ 10 ∷ 11 ∷ []) 3 tt); from = omega (arith, w.from, x.from, x.behind) }
  comment_by start at depth p {r = r} Open w x v f = f r (depth + 1) (omega (arith, x.from, x.behind)) x.within record { commenting = comment_opens w.commenting x; from = omega (arith, w.from, x.from, x.behind) }
  comment_by start at depth p {r = r} Close w x v f = leaving start at depth p w x (λ d z. f r d (omega (arith, x.from, x.behind)) x.within z)
  comment_by start at depth p {r = r} Quote w x v f = f r depth (omega (arith, x.from, x.behind)) x.within record { commenting = comment_on w.commenting x (hit (0 ∷ 1 ∷ 3 ∷ 6 ∷ 8 ∷ 10 ∷ 11 ∷ []) 6 tt); from = omega (arith, w.from, x.from, x.behind) }
  comment_by start at depth p {r = r} Backslash w x v f = escaped_view start at depth p w x v f
  comment_by start at depth p {r = r} (Mark class) w x v f = f r depth (omega (arith, x.from, x.behind)) x.within record { commenting = comment_on w.commenting x (hit (0 ∷ 1 ∷ 3 ∷ 6 ∷ 8 ∷ 10 ∷ 11 ∷ []) 8 tt); from = omega (arith, w.from, x.from, x.behind) }
  comment_by start at depth p {r = r} Above w x v f = faulty byte_above_127 _ (comment_moves w.commenting x (halt [] byte_above_127 _) refl)
  comment_by start at depth p {r = r} OpenBracket w x v f = f r depth (omega (arith, x.from, x.behind)) x.within record { commenting = comment_on w.commenting x (hit (0 ∷ 1 ∷ 3 ∷ 6 ∷ 8 ∷ 10 ∷ 11 ∷ []) 10 tt); from = omega (arith, w.from, x.from, x.behind) }
  comment_by start at depth p {r = r} CloseBracket w x v f = f r depth (omega (arith, x.from, x.behind)) x.within record { commenting = comment_on w.commenting x (hit (0 ∷ 1 ∷ 3 ∷ 6 ∷ 8 ∷ 10 ∷ 11 ∷ []) 11 tt); from = omega (arith, w.from, x.from, x.behind) }

  comment_view : (start at depth p : ℕ) → Within start at depth p → View classes text p → ((u depth' : ℕ) → p < u → u ≤ length text → Within start at depth' u → Leaves start at) → Leaves start at
  comment_view start at depth p w (over e) f = faulty comment_not_closed start (w.commenting.same ∙ at_end_lem classes text p _ e)
  comment_view start at depth p w (one {kind} {q = r} x) f = comment_by start at depth p kind w x (view classes text r) f

  comment_run : (n start at depth p : ℕ) → length text ≤ p + n → Within start at depth p → Leaves start at
  comment_run zero start at depth p m w = comment_view start at depth p w (view classes text p) (λ u d a b z. absurd (omega arith))
  comment_run (suc n) start at depth p m w = comment_view start at depth p w (view classes text p) (λ u d a b z. comment_run n start at d u (omega arith) z)

  -- ---- a domain literal closes, or there is a fault

  data LiteralEnds (start at : ℕ) : Type 0 where
    literal : (end : ℕ) → scan_from classes (characters_at text at) (in_literal start) ≡ next (symbol Literal start end []) (outside_at classes text end) → at < end → end ≤ length text → LiteralEnds start at
    faulty : (number p : ℕ) → scan_from classes (characters_at text at) (in_literal start) ≡ fault_at number p → LiteralEnds start at

  record Inside (start at p : ℕ) : Type 0 where
    literally : InLiteral classes text start at p
    from : at ≤ p

  taken_by : (start at p : ℕ) {q r s u : ℕ} (kind : ByteKind) → Inside start at p → FirstCharacter classes text p Backslash q r → FirstCharacter classes text r kind s u
      → (Inside start at u → LiteralEnds start at) → LiteralEnds start at
  taken_by start at p White w x y f = f record { literally = literal_taken w.literally x y (hit (0 ∷ 1 ∷ 2 ∷ 3 ∷ 4 ∷ 5 ∷ 6 ∷ 7 ∷ 8 ∷ 10 ∷ 11 ∷ []) 0 tt); from = omega (arith, w.from, x.from, x.behind, y.from, y.behind) }
  taken_by start at p Control w x y f = f record { literally = literal_taken w.literally x y (hit (0 ∷ 1 ∷ 2 ∷ 3 ∷ 4 ∷ 5 ∷ 6 ∷ 7 ∷ 8 ∷ 10 ∷ 11 ∷ []) 1 tt); from = omega (arith, w.from, x.from, x.behind, y.from, y.behind) }
  taken_by start at p Return w x y f = f record { literally = literal_taken w.literally x y (hit (0 ∷ 1 ∷ 2 ∷ 3 ∷ 4 ∷ 5 ∷ 6 ∷ 7 ∷ 8 ∷ 10 ∷ 11 ∷ []) 2 tt); from = omega (arith, w.from, x.from, x.behind, y.from, y.behind) }
  taken_by start at p Plain w x y f = f record { literally = literal_taken w.literally x y (hit (0 ∷ 1 ∷ 2 ∷ 3 ∷ 4 ∷ 5 ∷ 6 ∷ 7 ∷ 8 ∷ 10 ∷ 11 ∷ []) 3 tt); from = omega (arith, w.from, x.from, x.behind, y.from, y.behind) }
  taken_by start at p Open w x y f = f record { literally = literal_taken w.literally x y (hit (0 ∷ 1 ∷ 2 ∷ 3 ∷ 4 ∷ 5 ∷ 6 ∷ 7 ∷ 8 ∷ 10 ∷ 11 ∷ []) 4 tt); from = omega (arith, w.from, x.from, x.behind, y.from, y.behind) }
  taken_by start at p Close w x y f = f record { literally = literal_taken w.literally x y (hit (0 ∷ 1 ∷ 2 ∷ 3 ∷ 4 ∷ 5 ∷ 6 ∷ 7 ∷ 8 ∷ 10 ∷ 11 ∷ []) 5 tt); from = omega (arith, w.from, x.from, x.behind, y.from, y.behind) }
  taken_by start at p Quote w x y f = f record { literally = literal_taken w.literally x y (hit (0 ∷ 1 ∷ 2 ∷ 3 ∷ 4 ∷ 5 ∷ 6 ∷ 7 ∷ 8 ∷ 10 ∷ 11 ∷ []) 6 tt); from = omega (arith, w.from, x.from, x.behind, y.from, y.behind) }
  taken_by start at p Backslash w x y f = f record { literally = literal_taken w.literally x y (hit (0 ∷ 1 ∷ 2 ∷ 3 ∷ 4 ∷ 5 ∷ 6 ∷ 7 ∷ 8 ∷ 10 ∷ 11 ∷ []) 7 tt); from = omega (arith, w.from, x.from, x.behind, y.from, y.behind) }
  taken_by start at p (Mark class) w x y f = f record { literally = literal_taken w.literally x y (hit (0 ∷ 1 ∷ 2 ∷ 3 ∷ 4 ∷ 5 ∷ 6 ∷ 7 ∷ 8 ∷ 10 ∷ 11 ∷ []) 8 tt); from = omega (arith, w.from, x.from, x.behind, y.from, y.behind) }
  taken_by start at p OpenBracket w x y f = f record { literally = literal_taken w.literally x y (hit (0 ∷ 1 ∷ 2 ∷ 3 ∷ 4 ∷ 5 ∷ 6 ∷ 7 ∷ 8 ∷ 10 ∷ 11 ∷ []) 10 tt); from = omega (arith, w.from, x.from, x.behind, y.from, y.behind) }
  taken_by start at p CloseBracket w x y f = f record { literally = literal_taken w.literally x y (hit (0 ∷ 1 ∷ 2 ∷ 3 ∷ 4 ∷ 5 ∷ 6 ∷ 7 ∷ 8 ∷ 10 ∷ 11 ∷ []) 11 tt); from = omega (arith, w.from, x.from, x.behind, y.from, y.behind) }
  taken_by start at p Above w x y f = faulty byte_above_127 _ (literal_taking w.literally x y (halt [] byte_above_127 _) refl)

  taken_view : (start at p : ℕ) {q r : ℕ} → Inside start at p → FirstCharacter classes text p Backslash q r → View classes text r
      → ((u : ℕ) → p < u → u ≤ length text → Inside start at u → LiteralEnds start at) → LiteralEnds start at
  taken_view start at p {r = r} w x (over e) f = faulty literal_not_closed start (literal_moves w.literally x (go [] (taking_in_literal start)) refl ∙ at_end_lem classes text r _ e)
  taken_view start at p w x (one {kind} {q = u} y) f = taken_by start at p kind w x y (λ z. f u (omega (arith, x.from, x.behind, y.from, y.behind)) y.within z)

  literal_by : (start at p : ℕ) {q r : ℕ} (kind : ByteKind) → Inside start at p → FirstCharacter classes text p kind q r → View classes text r
      → ((u : ℕ) → p < u → u ≤ length text → Inside start at u → LiteralEnds start at) → LiteralEnds start at
  literal_by start at p {r = r} White w x v f = f r (omega (arith, x.from, x.behind)) x.within record { literally = literal_on w.literally x (hit (0 ∷ 1 ∷ 3 ∷ 4 ∷ 5 ∷ 6 ∷ 8 ∷ []) 0 tt); from = omega (arith, w.from, x.from, x.behind) }
  literal_by start at p {r = r} Control w x v f = f r (omega (arith, x.from, x.behind)) x.within record { literally = literal_on w.literally x (hit (0 ∷ 1 ∷ 3 ∷ 4 ∷ 5 ∷ 6 ∷ 8 ∷ []) 1 tt); from = omega (arith, w.from, x.from, x.behind) }
  literal_by start at p {r = r} Return w x v f = faulty stray_control _ (literal_moves w.literally x (halt [] stray_control _) refl)
  literal_by start at p {r = r} Plain w x v f = f r (omega (arith, x.from, x.behind)) x.within record { literally = literal_on w.literally x (hit (0 ∷ 1 ∷ 3 ∷ 4 ∷ 5 ∷ 6 ∷ 8 ∷ []) 3 tt); from = omega (arith, w.from, x.from, x.behind) }
  literal_by start at p {r = r} Open w x v f = f r (omega (arith, x.from, x.behind)) x.within record { literally = literal_on w.literally x (hit (0 ∷ 1 ∷ 3 ∷ 4 ∷ 5 ∷ 6 ∷ 8 ∷ []) 4 tt); from = omega (arith, w.from, x.from, x.behind) }
  literal_by start at p {r = r} Close w x v f = f r (omega (arith, x.from, x.behind)) x.within record { literally = literal_on w.literally x (hit (0 ∷ 1 ∷ 3 ∷ 4 ∷ 5 ∷ 6 ∷ 8 ∷ []) 5 tt); from = omega (arith, w.from, x.from, x.behind) }
  literal_by start at p {r = r} Quote w x v f = f r (omega (arith, x.from, x.behind)) x.within record { literally = literal_on w.literally x (hit (0 ∷ 1 ∷ 3 ∷ 4 ∷ 5 ∷ 6 ∷ 8 ∷ []) 6 tt); from = omega (arith, w.from, x.from, x.behind) }
  literal_by start at p {r = r} Backslash w x v f = taken_view start at p w x v f
  literal_by start at p {r = r} (Mark class) w x v f = f r (omega (arith, x.from, x.behind)) x.within record { literally = literal_on w.literally x (hit (0 ∷ 1 ∷ 3 ∷ 4 ∷ 5 ∷ 6 ∷ 8 ∷ []) 8 tt); from = omega (arith, w.from, x.from, x.behind) }
  literal_by start at p {r = r} Above w x v f = faulty byte_above_127 _ (literal_moves w.literally x (halt [] byte_above_127 _) refl)
  literal_by start at p {r = r} OpenBracket w x v f = faulty literal_not_closed start (literal_moves w.literally x (halt [] literal_not_closed start) refl)
  literal_by start at p {q = q} {r = r} CloseBracket w x v f =
      literal r (literal_moves w.literally x (go (symbol Literal start (q + 1) [] ∷ []) outside) refl ∙ rw x.behind) (omega (arith, w.from, x.from, x.behind)) x.within

  literal_view : (start at p : ℕ) → Inside start at p → View classes text p → ((u : ℕ) → p < u → u ≤ length text → Inside start at u → LiteralEnds start at) → LiteralEnds start at
  literal_view start at p w (over e) f = faulty literal_not_closed start (w.literally.same ∙ at_end_lem classes text p _ e)
  literal_view start at p w (one {kind} {q = r} x) f = literal_by start at p kind w x (view classes text r) f

  literal_run : (n start at p : ℕ) → length text ≤ p + n → Inside start at p → LiteralEnds start at
  literal_run zero start at p m w = literal_view start at p w (view classes text p) (λ u a b z. absurd (omega arith))
  literal_run (suc n) start at p m w = literal_view start at p w (view classes text p) (λ u a b z. literal_run n start at u (omega arith) z)

-- ---- meanings by place

meaning_atom : (classes text : List ℕ) (start end : ℕ) (test : Bool) → meaning_at classes text (pick test At Atom) start end ≡ part text start end
meaning_atom classes text start end true = refl
meaning_atom classes text start end false = refl

atom_not_quoted : (test : Bool) → pick test At Atom ≡ Quoted → ⊥
atom_not_quoted true e = let z : ◌≡◌ {A = ℕ} 0 1 = cc in omega arith
atom_not_quoted false e = let z : ◌≡◌ {A = ℕ} 0 1 = cc in omega arith

-- no mark is a quoted-string
abbrev Single : Class → Type 0
Single Atom = Unit {0}
Single Quoted = ⊥
Single At = Unit {0}
Single LessThan = Unit {0}
Single GreaterThan = Unit {0}
Single Comma = Unit {0}
Single Semicolon = Unit {0}
Single Colon = Unit {0}
Single Stray = Unit {0}
Single Dot = Unit {0}
Single Literal = ⊥

abbrev SingleMark : ByteKind → Type 0
SingleMark White = Unit {0}
SingleMark Control = Unit {0}
SingleMark Return = Unit {0}
SingleMark Plain = Unit {0}
SingleMark Open = Unit {0}
SingleMark Close = Unit {0}
SingleMark Quote = Unit {0}
SingleMark Backslash = Unit {0}
SingleMark (Mark class) = Single class
SingleMark Above = Unit {0}
SingleMark OpenBracket = Unit {0}
SingleMark CloseBracket = Unit {0}

or_else : (test : Bool) (a b : ByteKind) → SingleMark a → SingleMark b → SingleMark (pick test a b)
or_else true a b x y = x
or_else false a b x y = y

class_mark : (c : ℕ) → SingleMark (kind_of_class c)
class_mark c =
    or_else (eqb c white) _ _ tt (or_else (eqb c control) _ _ tt (or_else (eqb c open_parenthesis) _ _ tt (or_else (eqb c close_parenthesis) _ _ tt
    (or_else (eqb c less_than) _ _ tt (or_else (eqb c greater_than) _ _ tt (or_else (eqb c at_sign) _ _ tt (or_else (eqb c comma) _ _ tt
    (or_else (eqb c semicolon) _ _ tt (or_else (eqb c colon) _ _ tt (or_else (eqb c backslash) _ _ tt (or_else (eqb c quote) _ _ tt
    (or_else (eqb c above127) _ _ tt (or_else (eqb c dot) _ _ tt (or_else (eqb c open_bracket) _ _ tt (or_else (eqb c close_bracket) _ _ tt tt)))))))))))))))

character_mark : (classes : List ℕ) (b : ℕ) (folded : Bool) → SingleMark (character_kind classes b folded)
unfolding kind_of
character_mark classes b folded = or_else folded _ _ tt (or_else (eqb b 13) _ _ tt (class_mark (get_or classes b 0)))

meaning_single : (classes text : List ℕ) (class : Class) (p q : ℕ) → Single class → q ≡ p + 1 → q ≤ length text → get_or text p 0 ∷ [] ≡ meaning_at classes text class p q
meaning_single classes text Atom p q s e h = part_one text p q e h
meaning_single classes text Quoted p q s e h = absurd s
meaning_single classes text At p q s e h = part_one text p q e h
meaning_single classes text LessThan p q s e h = part_one text p q e h
meaning_single classes text GreaterThan p q s e h = part_one text p q e h
meaning_single classes text Comma p q s e h = part_one text p q e h
meaning_single classes text Semicolon p q s e h = part_one text p q e h
meaning_single classes text Colon p q s e h = part_one text p q e h
meaning_single classes text Stray p q s e h = part_one text p q e h
meaning_single classes text Dot p q s e h = part_one text p q e h
meaning_single classes text Literal p q s e h = absurd s

-- ---- one step outside

-- the first symbol at or after a position, before it is told whether it stands apart: it lies in the text, and scanning goes on from its end
pub record RawAt (classes text : List ℕ) (at : ℕ) (class : Class) (start end : ℕ) : Type 0 where
  pub same : outside_at classes text at ≡ next (symbol class start end (meaning_at classes text class start end)) (outside_at classes text end)
  pub from : at ≤ start
  pub starts : start < end
  pub within : end ≤ length text
  pub quotes : class ≡ Quoted → start + 2 ≤ end

pub data RawUnfolded (classes text : List ℕ) (at : ℕ) : Type 0 where
  raw_end : outside_at classes text at ≡ ended → RawUnfolded classes text at
  raw_symbol : {class : Class} {start end : ℕ} → RawAt classes text at class start end → RawUnfolded classes text at
  raw_fault : {number p : ℕ} → outside_at classes text at ≡ fault_at number p → RawUnfolded classes text at

-- what a character outside is: white space, the "(" of a comment, the first byte of a symbol, or it leads to a fault
pub data OutsideIs (classes text : List ℕ) (at : ℕ) : ByteKind → ℕ → Type 0 where
  white_space : {p : ℕ} → OutsideIs classes text at White p
  opens_comment_lem : {p : ℕ} → OutsideIs classes text at Open p
  begins : {kind : ByteKind} {p : ℕ} {class : Class} {end : ℕ} → p ≡ at → RawAt classes text at class p end → OutsideIs classes text at kind p
  faulty : {kind : ByteKind} {p number q : ℕ} → outside_at classes text at ≡ fault_at number q → OutsideIs classes text at kind p

module _ (classes text : List ℕ) where
  later : {at q : ℕ} → at ≤ q → outside_at classes text at ≡ outside_at classes text q → RawUnfolded classes text q → RawUnfolded classes text at
  later h e (raw_end f) = raw_end (e ∙ f)
  later h e (raw_symbol s) = raw_symbol record { same = e ∙ s.same; from = omega (arith, s.from); starts = s.starts; within = s.within; quotes = s.quotes }
  later h e (raw_fault f) = raw_fault (e ∙ f)

  one_byte : {at p q : ℕ} {kind : ByteKind} {class : Class} → FirstCharacter classes text at kind p q → (kind ≡ White → ⊥) → Single class
      → outside_at classes text at ≡ next (symbol class p q (get_or text p 0 ∷ [])) (outside_at classes text q) → OutsideIs classes text at kind p
  one_byte {p = p} {q = q} {class = class} x n s e =
      begins (x.tight n)
      record {
        same = e ∙ ap (λ (m : List ℕ). next (symbol class p q m) (outside_at classes text q)) (meaning_single classes text class p q s x.behind x.within);
        from = x.from;
        starts = omega (arith, x.behind);
        within = x.within;
        quotes = λ e. absurd (rw e at s);
      }

  in_atom_lem : {at p q : ℕ} → FirstCharacter classes text at Plain p q → Ends classes text p q → OutsideIs classes text at Plain p
  in_atom_lem {p = p} x e =
      begins (x.tight (λ k. omega (arith, ap tag k)))
      record {
        same =
            atom_begins x ∙ e.is.same
            ∙ ap (λ (m : List ℕ). next (symbol (atom_class (part text p e.end)) p e.end m) (outside_at classes text e.end))
            (sym (meaning_atom classes text p e.end (same_letters (part text p e.end) (bytes "at"))));
        from = x.from;
        starts = omega (arith, x.behind, e.is.from);
        within = e.is.within;
        quotes = λ q. absurd (atom_not_quoted (same_letters (part text p e.end) (bytes "at")) q);
      }

  in_quoted_lem : {at p q : ℕ} → FirstCharacter classes text at Quote p q → Closes classes text p q → OutsideIs classes text at Quote p
  in_quoted_lem {at} {p} {q} x (closes end e l h) =
      begins (x.tight (λ k. omega (arith, ap tag k)))
      record {
        same =
            moves x outside (go [] (in_quoted p [])) refl ∙ e
            ∙ ap (λ (i : ℕ). next (symbol Quoted p end (data_at classes text i)) (outside_at classes text end)) x.behind;
        from = x.from;
        starts = omega (arith, x.behind);
        within = h;
        quotes = λ q. omega (arith, x.behind);
      }
  in_quoted_lem {p = p} x (faulty number r e) = faulty (moves x outside (go [] (in_quoted p [])) refl ∙ e)

  literal_not_quoted : Literal ≡ Quoted → ⊥
  literal_not_quoted e = let z : ◌≡◌ {A = ℕ} 0 1 = cc in omega arith

  in_literal_lem : {at p q : ℕ} → FirstCharacter classes text at OpenBracket p q → LiteralEnds classes text p q → OutsideIs classes text at OpenBracket p
  in_literal_lem {at} {p} {q} x (literal end e l h) =
      begins (x.tight (λ k. omega (arith, ap tag k)))
      record {
        same = moves x outside (go [] (in_literal p)) refl ∙ e;
        from = x.from;
        starts = omega (arith, x.behind);
        within = h;
        quotes = λ q. absurd (literal_not_quoted q);
      }
  in_literal_lem {p = p} x (faulty number r e) = faulty (moves x outside (go [] (in_literal p)) refl ∙ e)

  in_comment_lem : {at p q : ℕ} → FirstCharacter classes text at Open p q → Leaves classes text p q → ((r : ℕ) → at < r → r ≤ length text → RawUnfolded classes text r) → RawUnfolded classes text at
  in_comment_lem {p = p} x (leaves end e) f =
      later (omega (arith, x.from, x.behind, e.from)) (moves x outside (go [] (in_comment 0 p)) refl ∙ e.same)
      (f end (omega (arith, x.from, x.behind, e.from)) e.within)
  in_comment_lem {p = p} x (faulty number r e) f = raw_fault (moves x outside (go [] (in_comment 0 p)) refl ∙ e)

  outside_by : {at p q : ℕ} (kind : ByteKind) → SingleMark kind → FirstCharacter classes text at kind p q → OutsideIs classes text at kind p
  outside_by White s x = white_space
  outside_by Control s x = faulty (control_next x (hit (1 ∷ 2 ∷ []) 1 tt))
  outside_by Return s x = faulty (control_next x (hit (1 ∷ 2 ∷ []) 2 tt))
  outside_by {p = p} {q = q} Plain s x = in_atom_lem x (atom_run classes text (length text) p q (omega arith) (omega (arith, x.behind)) x.within)
  outside_by Open s x = opens_comment_lem
  outside_by Close s x = one_byte x (λ k. omega (arith, ap tag k)) tt (stray_next x (hit (5 ∷ 7 ∷ 11 ∷ []) 5 tt))
  outside_by {p = p} {q = q} Quote s x =
      in_quoted_lem x (quoted_run classes text (length text) p q q (omega arith) record { quoting = record { meaning = []; same = refl }; data_so_far = refl; from = omega arith })
  outside_by Backslash s x = one_byte x (λ k. omega (arith, ap tag k)) tt (stray_next x (hit (5 ∷ 7 ∷ 11 ∷ []) 7 tt))
  outside_by (Mark class) s x = one_byte x (λ k. omega (arith, ap tag k)) s (mark_next x)
  outside_by {p = p} Above s x = faulty (moves x outside (halt [] byte_above_127 p) refl)
  outside_by {p = p} {q = q} OpenBracket s x = in_literal_lem x (literal_run classes text (length text) p q q (omega arith) record { literally = record { same = refl }; from = omega arith })
  outside_by CloseBracket s x = one_byte x (λ k. omega (arith, ap tag k)) tt (stray_next x (hit (5 ∷ 7 ∷ 11 ∷ []) 11 tt))

  pub outside_is : {at p q : ℕ} {kind : ByteKind} → FirstCharacter classes text at kind p q → OutsideIs classes text at kind p
  outside_is {p = p} {kind = kind} x = outside_by kind (rw x.kind_is (character_mark classes (get_or text p 0) x.folded)) x

  outside_on : (at : ℕ) {p q : ℕ} {kind : ByteKind} → OutsideIs classes text at kind p → FirstCharacter classes text at kind p q → ((r : ℕ) → at < r → r ≤ length text → RawUnfolded classes text r) → RawUnfolded classes text at
  outside_on at {q = q} white_space x f = later (omega (arith, x.from, x.behind)) (moves x outside (go [] outside) refl) (f q (omega (arith, x.from, x.behind)) x.within)
  outside_on at {p = p} {q = q} opens_comment_lem x f =
      in_comment_lem x (comment_run classes text (length text) p q 0 q (omega arith) record { commenting = record { same = refl }; from = omega arith }) f
  outside_on at (begins e s) x f = raw_symbol s
  outside_on at (faulty e) x f = raw_fault e

  outside_view : (at : ℕ) → View classes text at → ((r : ℕ) → at < r → r ≤ length text → RawUnfolded classes text r) → RawUnfolded classes text at
  outside_view at (over e) f = raw_end (at_end_lem classes text at outside e)
  outside_view at (one x) f = outside_on at (outside_is x) x f

  outside_run : (n at : ℕ) → length text ≤ at + n → RawUnfolded classes text at
  outside_run zero at m = outside_view at (view classes text at) (λ r a b. absurd (omega arith))
  outside_run (suc n) at m = outside_view at (view classes text at) (λ r a b. outside_run n r (omega arith))

  raw : (at : ℕ) → RawUnfolded classes text at
  raw at = outside_run (length text) at (omega arith)

-- .. and told
pub record SymbolAt (classes text : List ℕ) (at : ℕ) (class : Class) (start end : ℕ) : Type 0 where
  pub same : scan_by classes text at ≡ next (apart_from at (symbol class start end (meaning_at classes text class start end))) (scan_by classes text end)
  pub from : at ≤ start
  pub starts : start < end
  pub within : end ≤ length text
  pub quotes : class ≡ Quoted → start + 2 ≤ end

pub data Unfolded (classes text : List ℕ) (at : ℕ) : Type 0 where
  no_symbol : scan_by classes text at ≡ ended → Unfolded classes text at
  a_symbol : {class : Class} {start end : ℕ} → SymbolAt classes text at class start end → Unfolded classes text at
  a_fault : {number p : ℕ} → scan_by classes text at ≡ fault_at number p → Unfolded classes text at

module _ (classes text : List ℕ) where
  told : (at : ℕ) → RawUnfolded classes text at → Unfolded classes text at
  unfolding parted
  told at (raw_end e) = no_symbol (ap (parted at) e)
  told at (raw_symbol x) = a_symbol record { same = ap (parted at) x.same; from = x.from; starts = x.starts; within = x.within; quotes = x.quotes }
  told at (raw_fault e) = a_fault (ap (parted at) e)

  -- scanning from any position unfolds
  pub unfolded : (at : ℕ) → Unfolded classes text at
  unfolded at = told at (raw classes text at)

  found_all : (at : ℕ) {class : Class} {start end size : ℕ} {apart : Bool} → found_at class start end size apart ≡ next_of (scan_by classes text at)
      → SymbolAt classes text at class start end × (size ≡ length (meaning_at classes text class start end)) × (apart ≡ ltb at start)
  found_all at {class} {start} {end} {size} {apart} e = by (unfolded at)
    where
      by : Unfolded classes text at → SymbolAt classes text at class start end × (size ≡ length (meaning_at classes text class start end)) × (apart ≡ ltb at start)
      by (no_symbol f) = absurd (let z : ◌≡◌ {A = ℕ} 0 1 = cc (ap next_of f) in omega arith)
      by (a_symbol {class = c} {start = s} {end = n} x) =
          let m : ℕ = length (meaning_at classes text c s n) in
          let f : found_at class start end size apart ≡ found_at c s n m (ltb at s) = e ∙ ap next_of x.same in
          let g : ◌≡◌ {A = Placed} record { class = class; start = start; end = end; length = size; apart = apart } record { class = c; start = s; end = n; length = m; apart = ltb at s } = cc in
          rw (ap (λ (y : Placed). y.class) g, ap (λ (y : Placed). y.start) g, ap (λ (y : Placed). y.end) g) (x, ap (λ (y : Placed). y.length) g, ap (λ (y : Placed). y.apart) g)
      by (a_fault f) = absurd (let z : ◌≡◌ {A = ℕ} 0 1 = cc (ap next_of f) in omega arith)

  -- the symbol that the next_symbol step finds, the length of its meaning, and whether it stands apart
  pub found : (at : ℕ) {class : Class} {start end size : ℕ} {apart : Bool} → found_at class start end size apart ≡ next_of (scan_by classes text at) → SymbolAt classes text at class start end
  found at e = (found_all at e).0

  pub found_length : (at : ℕ) {class : Class} {start end size : ℕ} {apart : Bool} → found_at class start end size apart ≡ next_of (scan_by classes text at) → size ≡ length (meaning_at classes text class start end)
  found_length at e = (found_all at e).1

  pub found_apart : (at : ℕ) {class : Class} {start end size : ℕ} {apart : Bool} → found_at class start end size apart ≡ next_of (scan_by classes text at) → apart ≡ ltb at start
  found_apart at e = (found_all at e).2

  -- the end, and the fault
  pub found_end : (at : ℕ) → Ended ≡ next_of (scan_by classes text at) → scan_by classes text at ≡ ended
  found_end at e = by (unfolded at)
    where
      by : Unfolded classes text at → scan_by classes text at ≡ ended
      by (no_symbol f) = f
      by (a_symbol x) = absurd (let z : ◌≡◌ {A = ℕ} 0 1 = cc (ap next_of x.same) in omega arith)
      by (a_fault f) = absurd (let z : ◌≡◌ {A = ℕ} 0 1 = cc (ap next_of f) in omega arith)

  pub found_fault : (at : ℕ) {number p : ℕ} → Fault number p ≡ next_of (scan_by classes text at) → scan_by classes text at ≡ fault_at number p
  found_fault at {number} {p} e = by (unfolded at)
    where
      by : Unfolded classes text at → scan_by classes text at ≡ fault_at number p
      by (no_symbol f) = absurd (let z : ◌≡◌ {A = ℕ} 0 1 = cc (ap next_of f) in omega arith)
      by (a_symbol x) = absurd (let z : ◌≡◌ {A = ℕ} 0 1 = cc (ap next_of x.same) in omega arith)
      by (a_fault {number = m} {p = q} f) =
          let g : Fault number p ≡ Fault m q = e ∙ ap next_of f in
          let i : number ≡ m = cc in
          let j : p ≡ q = cc in
          rw (i, j) f

  -- ---- faults

  -- up to a symbol's end there is no fault: the first fault is that from its end on
  pub fault_on : {at : ℕ} {class : Class} {start end : ℕ} → SymbolAt classes text at class start end → fault_of (scan_by classes text at) ≡ fault_of (scan_by classes text end)
  unfolding unless_fault
  fault_on x = rw x.same

  pub faultless_on : {at : ℕ} {class : Class} {start end : ℕ} → Faultless classes text at → SymbolAt classes text at class start end → Faultless classes text end
  faultless_on f x = record { none = sym (fault_on x) ∙ f.none }
