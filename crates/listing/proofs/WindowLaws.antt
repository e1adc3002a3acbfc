-- Laws of a text that goes through a lent part in pieces: a listing by windows, and a message by reads. Assumes nothing.
use mathlib.Core.Path.{◌≡◌, sym, ap, ◌∙◌}
use mathlib.Core.List.{List, ◌++◌, append-nil}
use Prim.Native.Nat.{ℕ, ◌+◌, ◌-◌, ◌≤◌, min}
use native.Mathlib.Omega.{arith}
use lib.ListN.{length, take, drop, length-drop, length-take, take-append-drop, drop_of_length-le}
use lib.Seq.{sets, sets-eq, take-add, take-take, length-take-le, take-append-add}
use borrow.Rule.Slice.PartMut.{put_mid, post_of}
use Rattle.std.proofs.Common.{Result, Ok, Err, OnOk, Option, subst}
use Rattle.std.specs.Io.KnownBytes.{Appends}
use Rattle.std.proofs.KnownBytes.{Appends-trans}
use Rattle.std.proofs.lemmas.List.{take-append-le, take_min}
use Rattle.octets.proofs.Parts.{sets-append, sets_out, part-sets}

-- what follows from what holds of a value, if there is one
pub on_ok : {T E P Q : Type 0} → (r : Result T E) → (P → Q) → OnOk r P → OnOk r Q
on_ok (Ok x) f p = f p
on_ok (Err e) f p = tt

-- a part is filled by a text of its length
filled_by : (text window : List ℕ) → length text ≡ length window → sets window 0 text ≡ text
filled_by text window h =
    sets-eq text window 0 (omega (arith, h))
    ∙ ap (λ rest. text ++ rest) (drop_of_length-le window {i = 0 + length text} (omega (arith, h)))
    ∙ append-nil text

-- a part that is too small for a text is filled by its front
filled : (text window : List ℕ) → length window ≤ length text → sets window 0 text ≡ take (length window) text
filled text window h =
    let m = length window in
    let n : length (take m text) ≡ m = length-take-le m text h in
    ap (sets window 0) (sym (take-append-drop m text))
    ∙ sets-append (take m text) (drop m text) window 0
    ∙ ap (λ table. sets table (0 + length (take m text)) (drop m text)) (filled_by (take m text) window n)
    ∙ sets_out (drop m text) (take m text) (0 + length (take m text)) (omega arith)

-- a whole window behind what was printed
pub window_full : (text window new : List ℕ) (from : ℕ) → new ≡ sets window 0 (drop from text) → length new ≡ length window → length window ≤ length text - from → take from text ++ new ≡ take (from + length new) text
window_full text window new from e same h =
    ap (λ part. take from text ++ part) (e ∙ filled (drop from text) window (omega (arith, length-drop from text)) ∙ ap (λ m. take m (drop from text)) (sym same))
    ∙ sym (take-add from (length new) text)

-- the last window
pub window_last : (text window new : List ℕ) (from whole : ℕ) → whole ≡ length text → from ≤ whole → new ≡ sets window 0 (drop from text) → whole - from ≤ length window → take from text ++ take (whole - from) new ≡ text
window_last text window new from whole all within e h =
    let rest = drop from text in
    let n : whole - from ≡ length rest = omega (arith, all, length-drop from text) in
    ap (λ part. take from text ++ part) (ap (λ m. take m new) n ∙ ap (take (length rest)) e ∙ part-sets rest window 0 (omega (arith, n)))
    ∙ take-append-drop from text

-- a front of a front of a text is a front of the text
front_of_front : (text : List ℕ) (m k : ℕ) → take m (take k text) ≡ take (min m (length (take k text))) text
front_of_front text m k = sym (take_min m (take k text)) ∙ take-take (min m (length (take k text))) k text (omega (arith, length-take k text))

-- a front of what stands behind a text's front makes a front of both
front_of_both : (text part whole : List ℕ) (from n : ℕ) → from ≤ length text → take from text ++ part ≡ whole → take from text ++ take n part ≡ take (from + n) whole
front_of_both text part whole from n within e =
    sym (take-append-add (take from text) part n)
    ∙ ap (λ m. take (m + n) (take from text ++ part)) (length-take-le from text within)
    ∙ ap (take (from + n)) e

-- a writer that has a text up to a place, and took some front of a piece of it from there on, has some front of the text
pub left_of : (old mid new : Option (List ℕ)) (text part : List ℕ) (from k : ℕ) → from ≤ length text → take from text ++ part ≡ take k text
    → Appends old mid (take from text) → (n : ℕ) × Appends mid new (take n part) → (n : ℕ) × Appends old new (take n text)
left_of old mid new text part from k within e before more =
    let n = more.0 in
    let same : take from text ++ take n part ≡ take (min (from + n) (length (take k text))) text =
    front_of_both text part (take k text) from n within e ∙ front_of_front text (from + n) k in
    (min (from + n) (length (take k text)), subst (Appends old new) same (Appends-trans old mid new _ _ before more.1))

-- a writer that has a text up to a place, and took more of it from there on
pub written_more : (old mid new : Option (List ℕ)) (text : List ℕ) (done more : ℕ) → Appends old mid (take done text) → Appends mid new (take more (drop done text)) → Appends old new (take (done + more) text)
written_more old mid new text done more before next = subst (Appends old new) (sym (take-add done more text)) (Appends-trans old mid new _ _ before next)

-- what was read at the place n, behind what stands before it
pub read_more : (space part : List ℕ) (n k more : ℕ) → n ≤ length space → more ≤ length part → take (n + more) (put_mid n k space part) ≡ take n space ++ take more part
read_more space part n k more within h =
    let e : length (take n space) ≡ n = length-take-le n space within in
    ap (λ m. take (m + more) (put_mid n k space part)) (sym e)
    ∙ take-append-add (take n space) (part ++ post_of n k space) more
    ∙ ap (λ rest. take n space ++ rest) (take-append-le more part (post_of n k space) h)
