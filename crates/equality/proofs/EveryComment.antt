-- No comment is left out: where a "(" opens a comment, there stands one in the sense of `is_comment`, or scanning ends with a fault. Assumes nothing.
use Prim.Native.Nat.{ℕ, suc, ◌+◌}
use native.Mathlib.Omega.{arith}
use mathlib.Core.Path.{◌≡◌, refl, sym, ap, ◌∙◌}
use mathlib.Core.Bool.{Bool, true, false}
use mathlib.Core.List.{List, [], ◌∷◌, ◌++◌, append-nil}
use mathlib.Core.Option.{Option, none, some}
use lib.ListN.{length, drop}
use lib.Seq.{drop-append-le}
use Rattle.octets.specs.Believed.Classes.{class_table, class_of}
use Rattle.octets.specs.Believed.Numbers.{comment_not_closed}
use Rattle.octets.specs.Believed.Octets.{open_byte}
use Rattle.octets.specs.declared.answers.Answer.TheVariants.{Accepted, Refused}
use Rattle.scanner.specs.Believed.Kinds.{kind_of, character_kind}
use Rattle.scanner.specs.Believed.Characters.{Character, character, fold_at, InFold, line_feed, white, characters_from, characters_at}
use Rattle.scanner.specs.Believed.Characters as characters
use Rattle.scanner.specs.Believed.Scanning.{Scanned, fault_at, State, outside, in_atom, in_quoted, taking_in_quoted, in_literal, taking_in_literal, in_comment, taking_in_comment, Move, go, halt, move, followed_by, then, scan_from, scan}
use Rattle.scanner.specs.Believed.Answers.{unless_fault, fault_of}
use Rattle.scanner.proofs.CharacterLaws.{plain_here, no_fold}
use Rattle.grammar.specs.Executable.Trees733.{Sym}
use Rattle.scanner.proofs.PartedLaws.{fault_parted}
use Rattle.equality.specs.Believed.Comments.{state_of, state_after, opens_comment, comment_may_follow, closes, BeginsWithComment, EveryCommentIsOne}
use Rattle.equality.proofs.InComments.{never, closes_by, Within, comment, taking, closes_within, Does, faults, leaves, goes_on, does}
use Rattle.equality.proofs.Splits.{fold_here, apart_before_open, split}
use Rattle.equality.proofs.Through.{ended_by}

-- ---- from a state in a comment on, the bytes close it, or scanning ends with a fault

-- bytes that alone stand from p on, and here from p' on
data Ends (fold : InFold) (cs : List ℕ) (p p' : ℕ) (alone here : State) : Type 0 where
  faulty : (n q : ℕ) → scan_from class_table (characters_from fold cs p') here ≡ fault_at n q → Ends fold cs p p' alone here
  closing : (inside behind : List ℕ) → cs ≡ inside ++ behind → closes (characters_from fold inside p) alone ≡ true → Ends fold cs p p' alone here

ends_here : {base s : ℕ} (fold : InFold) (p p' : ℕ) {alone here : State} → Within base s alone here → Ends fold [] p p' alone here
unfolding scan_from characters_from
ends_here {base} {s} fold p p' (comment e q r h) = faulty comment_not_closed s refl
ends_here {base} {s} fold p p' (taking e q r h) = faulty comment_not_closed s refl

-- a byte that is a character, whatever of the bytes after it is left
module _ (fold : InFold) (b : ℕ) (cs : List ℕ) (p p' : ℕ) (folded : Bool) (is : (inside behind : List ℕ) (i : ℕ) → cs ≡ inside ++ behind → characters_from fold (b ∷ inside) i ≡ character b i folded ∷ characters_from characters.none inside (i + 1)) where
  whole : characters_from fold (b ∷ cs) p' ≡ character b p' folded ∷ characters_from characters.none cs (p' + 1)
  whole = is cs [] p' (sym (append-nil cs))

  abbrev on : State → Scanned
  on state = scan_from class_table (characters_from characters.none cs (p' + 1)) state

  module _ {base s : ℕ} {alone here : State} where
    ends_rest : (alone' here' : State) → Within base s alone' here' → move alone (character_kind class_table b folded) b p folded ≡ go [] alone' → move here (character_kind class_table b folded) b p' folded ≡ go [] here'
        → Ends characters.none cs (p + 1) (p' + 1) alone' here' → Ends fold (b ∷ cs) p p' alone here
    unfolding scan_from
    ends_rest alone' here' w e f (faulty n q g) = faulty n q (rw whole (ap (λ m. then m on) f ∙ g))
    ends_rest alone' here' w e f (closing inside behind g l) =
        closing (b ∷ inside) behind (ap (λ l. b ∷ l) g)
        (rw (is inside behind p g) (ap (closes_by (characters_from characters.none inside (p + 1))) e ∙ closes_within w (characters_from characters.none inside (p + 1)) ∙ l))

    ends_by : Does base s (move alone (character_kind class_table b folded) b p folded) (move here (character_kind class_table b folded) b p' folded)
        → ((alone' here' : State) → Within base s alone' here' → Ends characters.none cs (p + 1) (p' + 1) alone' here') → Ends fold (b ∷ cs) p p' alone here
    unfolding scan_from characters_from
    ends_by (faults n q q' e f) rest = faulty n q' (rw whole (ap (λ m. then m on) f))
    ends_by (leaves e f) rest = closing (b ∷ []) cs refl (rw (is [] cs p refl) (ap (closes_by []) e))
    ends_by (goes_on alone' here' w e f) rest = ends_rest alone' here' w e f (rest alone' here' w)

-- where there is no fold, there is none in fewer bytes
fewer : (b : ℕ) (inside behind : List ℕ) → fold_at (b ∷ (inside ++ behind)) 0 ≡ false → fold_at (b ∷ inside) 0 ≡ false
fewer b [] behind e = no_fold (b ∷ []) 0 (omega arith)
fewer b (c ∷ []) behind e = no_fold (b ∷ c ∷ []) 0 (omega arith)
fewer b (c ∷ d ∷ inside) behind e = e

-- after the CR of a fold, and after its LF
ends_fold : (b : ℕ) (cs : List ℕ) (p p' : ℕ) {alone here : State} → fold_at (b ∷ cs) 0 ≡ true → Ends line_feed cs (p + 1) (p' + 1) alone here → Ends characters.none (b ∷ cs) p p' alone here
unfolding characters_from
ends_fold b cs p p' h (faulty n q e) = faulty n q (rw (fold_here b cs p' h) e)
ends_fold b cs p p' h (closing [] behind e l) = never l
ends_fold b cs p p' h (closing (c ∷ []) behind e l) = never l
ends_fold b cs p p' h (closing (c ∷ d ∷ inside) behind e l) =
    let f : fold_at (b ∷ c ∷ d ∷ inside) 0 ≡ true = rw e at h in
    closing (b ∷ c ∷ d ∷ inside) behind (ap (λ l. b ∷ l) e) (rw (fold_here b (c ∷ d ∷ inside) p f) l)

ends_line_feed : (b : ℕ) {cs : List ℕ} {p p' : ℕ} {alone here : State} → Ends white cs (p + 1) (p' + 1) alone here → Ends line_feed (b ∷ cs) p p' alone here
unfolding characters_from
ends_line_feed b (faulty n q e) = faulty n q e
ends_line_feed b (closing inside behind e l) = closing (b ∷ inside) behind (ap (λ l. b ∷ l) e) l

module _ {base s : ℕ} where
  by_fold : (z : Bool) (b : ℕ) (cs : List ℕ) (p p' : ℕ) {alone here : State} → fold_at (b ∷ cs) 0 ≡ z → Within base s alone here → Ends line_feed cs (p + 1) (p' + 1) alone here
      → ((alone' here' : State) → Within base s alone' here' → Ends characters.none cs (p + 1) (p' + 1) alone' here') → Ends characters.none (b ∷ cs) p p' alone here
  by_fold true b cs p p' h w f g = ends_fold b cs p p' h f
  by_fold false b cs p p' h w f g = ends_by characters.none b cs p p' false (λ inside behind i e. plain_here b inside i (fewer b inside behind (rw e at h))) (does w b p p' false) g

  ends : (cs : List ℕ) (fold : InFold) (p p' : ℕ) (alone here : State) → Within base s alone here → Ends fold cs p p' alone here
  unfolding characters_from
  ends [] fold p p' alone here w = ends_here fold p p' w
  ends (b ∷ cs) line_feed p p' alone here w = ends_line_feed b (ends cs white (p + 1) (p' + 1) alone here w)
  ends (b ∷ cs) white p p' alone here w = ends_by white b cs p p' true (λ inside behind i e. refl) (does w b p p' true) (λ a h v. ends cs characters.none (p + 1) (p' + 1) a h v)
  ends (b ∷ cs) characters.none p p' alone here w = by_fold (fold_at (b ∷ cs) 0) b cs p p' refl w (ends cs line_feed (p + 1) (p' + 1) alone here w) (λ a h v. ends cs characters.none (p + 1) (p' + 1) a h v)

-- ---- from a "(" on that opens a comment

-- the bytes after it close the comment, or scanning ends with a fault and no symbol after it
pub data Opens (state : State) (tail : List ℕ) (p : ℕ) : Type 0 where
  is_closed : BeginsWithComment (open_byte ∷ tail) → Opens state tail p
  not_closed : (n q : ℕ) → scan_from class_table (characters_from characters.none (open_byte ∷ tail) p) state ≡ followed_by (ended_by state) (fault_at n q) → Opens state tail p

opens_by : (state here : State) (tail : List ℕ) (p : ℕ) → scan_from class_table (characters_from characters.none (open_byte ∷ tail) p) state ≡ followed_by (ended_by state) (scan_from class_table (characters_from characters.none tail (p + 1)) here)
    → Ends characters.none tail 1 (p + 1) (in_comment 0 0) here → Opens state tail p
opens_by state here tail p e (faulty n q f) = not_closed n q (e ∙ ap (followed_by (ended_by state)) f)
opens_by state here tail p e (closing inside behind f l) = is_closed (record { comment = open_byte ∷ inside; behind = behind; splits = ap (λ cs. open_byte ∷ cs) f; comment_is = l })

pub opens_comment_lem : (state : State) (tail : List ℕ) (p : ℕ) → opens_comment state ≡ true → Opens state tail p
unfolding scan_from characters_from kind_of class_table class_of
opens_comment_lem outside tail p o = opens_by outside (in_comment 0 p) tail p refl (ends {base = 0} tail characters.none 1 (p + 1) _ _ (comment 0 0 0 refl))
opens_comment_lem (in_atom start end t) tail p o = opens_by (in_atom start end t) (in_comment 0 p) tail p refl (ends {base = 0} tail characters.none 1 (p + 1) _ _ (comment 0 0 0 refl))
opens_comment_lem (in_quoted start t) tail p o = never o
opens_comment_lem (taking_in_quoted start t) tail p o = never o
opens_comment_lem (in_literal start) tail p o = never o
opens_comment_lem (taking_in_literal start) tail p o = never o
opens_comment_lem (in_comment depth start) tail p o = opens_by (in_comment depth start) (in_comment (suc depth) start) tail p refl (ends {base = suc depth} tail characters.none 1 (p + 1) _ _ (comment 0 0 (suc depth) (omega arith)))
opens_comment_lem (taking_in_comment depth start) tail p o = never o

-- ---- in a body that scans without fault

fault_followed : (xs : List Sym) (r : Scanned) → fault_of (followed_by xs r) ≡ fault_of r
unfolding unless_fault
fault_followed [] r = refl
fault_followed (x ∷ xs) r = fault_followed xs r

-- the fault after characters that lead to a state
fault_behind : (xs ys : List Character) (state state' : State) → state_after xs state ≡ some state' → fault_of (scan_from class_table (xs ++ ys) state) ≡ fault_of (scan_from class_table ys state')
unfolding scan_from
fault_behind [] ys state state' e = let f : state ≡ state' = cc in ap (λ t. fault_of (scan_from class_table ys t)) f
fault_behind (character b p folded ∷ xs) ys state state' e = by (move state (character_kind class_table b folded) b p folded) e (λ t i. fault_behind xs ys t state' i)
  where
    by : (m : Move) → elim (state_of m) [ none ↦ none | some t ↦ state_after xs t ] ≡ some state' → ((t : State) → state_after xs t ≡ some state' → fault_of (scan_from class_table (xs ++ ys) t) ≡ fault_of (scan_from class_table ys state'))
        → fault_of (then m (λ t. scan_from class_table (xs ++ ys) t)) ≡ fault_of (scan_from class_table ys state')
    by (go symbols t) i h = fault_followed symbols (scan_from class_table (xs ++ ys) t) ∙ h t i
    by (halt symbols n q) i h = absurd (let z : ◌≡◌ {A = ℕ} 0 1 = cc in omega arith)

-- where a comment may follow, scanning stands where a "(" opens one
record Stands (text : List ℕ) (start : ℕ) : Type 0 where
  state : State
  reached : state_after (characters_at text start) outside ≡ some state
  opening : opens_comment state ≡ true

stands : (text : List ℕ) (start : ℕ) → comment_may_follow text start ≡ true → Stands text start
stands text start h = by (state_after (characters_at text start) outside) refl h
  where
    by : (o : Option State) → state_after (characters_at text start) outside ≡ o → elim o [ none ↦ false | some t ↦ opens_comment t ] ≡ true → Stands text start
    by none e i = never i
    by (some t) e i = record { state = t; reached = e; opening = i }

pub every_comment : EveryCommentIsOne
unfolding unless_fault
every_comment before tail start h c f = by (opens_comment_lem s.state tail (start + length (drop start before)) s.opening)
  where
    s : Stands before start
    s = stands before start c

    there : fault_of (scan (before ++ (open_byte ∷ tail)) start) ≡ fault_of (scan_from class_table (characters_from characters.none (open_byte ∷ tail) (start + length (drop start before))) s.state)
    there =
        fault_parted start (scan_from class_table (characters_at (before ++ (open_byte ∷ tail)) start) outside)
        ∙ ap (λ cs. fault_of (scan_from class_table (characters_from characters.none cs start) outside)) (drop-append-le start before (open_byte ∷ tail) h)
        ∙ ap (λ cs. fault_of (scan_from class_table cs outside)) (split (drop start before) (open_byte ∷ tail) start (apart_before_open (drop start before) tail))
        ∙ fault_behind (characters_at before start) _ outside s.state s.reached

    by : Opens s.state tail (start + length (drop start before)) → BeginsWithComment (open_byte ∷ tail)
    by (is_closed d) = d
    by (not_closed n q e) = absurd (let g : Refused n q ≡ Accepted 0 = sym (there ∙ ap fault_of e ∙ fault_followed (ended_by s.state) (fault_at n q)) ∙ f in let z : ◌≡◌ {A = ℕ} 0 1 = cc in omega arith)
