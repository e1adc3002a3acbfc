-- A body with one comment at a place and with another scans alike. Assumes nothing.
use Prim.Native.Nat.{ℕ, ◌+◌}
use mathlib.Core.Path.{◌≡◌, refl, sym, ap, ◌∙◌}
use mathlib.Core.Bool.{true, false}
use mathlib.Core.List.{List, [], ◌∷◌, ◌++◌, append-nil}
use mathlib.Core.Option.{Option, none, some}
use borrow.Author.Tests.{eqb-true}
use lib.Dec.{eqb}
use lib.ListN.{length, take, drop}
use lib.Seq.{take-append-add, drop-append-le}
use Rattle.octets.specs.Believed.Classes.{class_table}
use Rattle.octets.specs.Believed.Octets.{open_byte}
use Rattle.octets.proofs.ChoiceLaws.{both_parts}
use Rattle.scanner.specs.Believed.Characters.{Character, character, characters_from}
use Rattle.scanner.specs.Believed.Characters as characters
use Rattle.scanner.specs.Believed.Kinds.{character_kind}
use Rattle.scanner.specs.Believed.Scanning.{Scanned, ended, State, outside, in_comment, Move, go, halt, move, then, scan_from, scan, parted}
use Rattle.equality.specs.Believed.Comments.{state_of, state_after, opens_comment, closes, is_comment}
use Rattle.equality.specs.Believed.Exchange.{Place, MayHoldComment, message_with, end_with}
use Rattle.equality.proofs.Splits.{apart_before_open, apart_behind, split}
use Rattle.equality.proofs.Pairs.{to_themselves}
use Rattle.equality.proofs.Shifts.{alike_keeps, AlikeScans, alike_parted, both_fault, alike_followed, alike_from, shifted}
use Rattle.equality.proofs.InComments.{never}
use Rattle.equality.proofs.Through.{ended_by, behind_comment, behind_alike, comment_scans}
use Rattle.equality.proofs.LastBytes.{comment_ends_no_line}

-- ---- the same characters before what scans alike

same_move : (m : Move) (f g : State → Scanned) → ((state : State) → state_of m ≡ some state → AlikeScans (f state) (g state)) → AlikeScans (then m f) (then m g)
same_move (go symbols state) f g h = alike_followed (to_themselves alike_keeps symbols) (h state refl)
same_move (halt symbols n p) f g h = alike_followed (to_themselves alike_keeps symbols) (both_fault n p p)

same_front : (xs ys zs : List Character) (state : State) → ((state' : State) → state_after xs state ≡ some state' → AlikeScans (scan_from class_table ys state') (scan_from class_table zs state'))
    → AlikeScans (scan_from class_table (xs ++ ys) state) (scan_from class_table (xs ++ zs) state)
unfolding scan_from
same_front [] ys zs state h = h state refl
same_front (character b p folded ∷ xs) ys zs state h =
    same_move (move state (character_kind class_table b folded) b p folded) (λ s. scan_from class_table (xs ++ ys) s) (λ s. scan_from class_table (xs ++ zs) s)
    (λ s e. same_front xs ys zs s (λ s' e'. h s' (ap (λ (o : Option State). elim o [ none ↦ none | some t ↦ state_after xs t ]) e ∙ e')))

-- ---- a comment taken apart

record Opened (bytes : List ℕ) : Type 0 where
  inside : List ℕ
  opens : bytes ≡ open_byte ∷ inside
  closed : closes (characters_from characters.none inside 1) (in_comment 0 0) ≡ true

opened : (bytes : List ℕ) → is_comment bytes ≡ true → Opened bytes
opened [] c = never c
opened (b ∷ inside) c = let (o, l) = both_parts (eqb b open_byte) _ c in record { inside = inside; opens = ap (λ a. a ∷ inside) (eqb-true b open_byte o); closed = l }

-- ---- a text with a comment in it

module _ (pre post : List ℕ) (from : ℕ) where
  -- the characters before the comment, its own, and those after it
  comment_characters : (bytes : List ℕ) (c : Opened bytes)
      → characters_from characters.none (pre ++ (bytes ++ post)) from
      ≡ characters_from characters.none pre from ++ (characters_from characters.none (open_byte ∷ c.inside) (from + length pre) ++ characters_from characters.none post (from + length pre + length bytes))
  comment_characters bytes c =
      rw c.opens
      (split pre (open_byte ∷ (c.inside ++ post)) from (apart_before_open pre (c.inside ++ post))
      ∙ ap (λ cs. characters_from characters.none pre from ++ cs) (split (open_byte ∷ c.inside) post (from + length pre) (apart_behind open_byte c.inside post (comment_ends_no_line c.inside c.closed))))

  -- with one comment and with another
  exchanged : (one other : List ℕ) (c : Opened one) (d : Opened other) → ((state : State) → state_after (characters_from characters.none pre from) outside ≡ some state → opens_comment state ≡ true)
      → AlikeScans (scan_from class_table (characters_from characters.none (pre ++ (one ++ post)) from) outside) (scan_from class_table (characters_from characters.none (pre ++ (other ++ post)) from) outside)
  exchanged one other c d o =
      rw (comment_characters one c, comment_characters other d)
      (same_front (characters_from characters.none pre from) _ _ outside
      (λ state e. rw (comment_scans state c.inside (from + length pre) (characters_from characters.none post (from + length pre + length one)) (o state e) c.closed, comment_scans state d.inside (from + length pre) (characters_from characters.none post (from + length pre + length other)) (o state e) d.closed)
      (alike_followed (to_themselves alike_keeps (ended_by state)) (alike_from (shifted post characters.none _ _) (behind_comment state) (behind_comment state) (behind_alike state (o state e))))))

-- ---- the body of a message with a comment in it

module _ (place : Place) (may : MayHoldComment place) where
  body_bytes : (bytes : List ℕ) → drop place.start (take (end_with place bytes) (message_with place bytes)) ≡ drop place.start place.before ++ (bytes ++ take place.rest place.behind)
  body_bytes bytes =
      ap (drop place.start) (take-append-add place.before (bytes ++ place.behind) (length bytes + place.rest) ∙ ap (λ cs. place.before ++ cs) (take-append-add bytes place.behind place.rest))
      ∙ drop-append-le place.start place.before (bytes ++ take place.rest place.behind) may.starts

  opens_there : (state : State) → state_after (characters_from characters.none (drop place.start place.before) place.start) outside ≡ some state → opens_comment state ≡ true
  opens_there state e = ap (λ (o : Option State). elim o [ none ↦ false | some t ↦ opens_comment t ]) (sym e) ∙ may.follows

  pub bodies_scan_alike : (one other : List ℕ) → is_comment one ≡ true → is_comment other ≡ true
      → AlikeScans (scan (take (end_with place one) (message_with place one)) place.start) (scan (take (end_with place other) (message_with place other)) place.start)
  bodies_scan_alike one other c d =
      alike_parted place.start place.start
      (rw (body_bytes one, body_bytes other)
      (exchanged (drop place.start place.before) (take place.rest place.behind) place.start one other (opened one c) (opened other d) opens_there))

-- ---- alone

-- a comment, as a body of its own, scans without fault to no symbol
pub scans_alone : (bytes : List ℕ) → is_comment bytes ≡ true → scan bytes 0 ≡ ended
unfolding scan_from parted
scans_alone bytes c =
    let o = opened bytes c in
    let e : scan_from class_table (characters_from characters.none bytes 0) outside ≡ ended = rw (o.opens, ← (append-nil (characters_from characters.none (open_byte ∷ o.inside) 0))) (comment_scans outside o.inside 0 [] refl o.closed) in
    ap (parted 0) e
