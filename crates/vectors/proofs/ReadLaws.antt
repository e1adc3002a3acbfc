-- A line is read byte by byte: what is ahead of a place. Assumes nothing.
use mathlib.Core.Path.{◌≡◌, refl, sym, ap, ◌∙◌}
use mathlib.Core.Bool.{Bool, true, false}
use mathlib.Core.List.{List, [], ◌∷◌, ◌++◌, append-nil, append_assoc}
use Prim.Native.Nat.{ℕ, suc, ◌+◌, ◌*◌, ◌-◌, ◌%◌, ◌≤◌, ◌<◌}
use native.Mathlib.Numerals.{add-one}
use native.Mathlib.Omega.{arith}
use borrow.Author.Tests.{lt-ltb, le-ltb, lt-leb, le-leb, leb-true, eq-eqb, ne_eqb}
use lib.Dec.{leb}
use lib.ListN.{length, get_or, take, drop, drop_of_length-le, length-drop}
use lib.Seq.{take-suc, take_all, length-take-le}
use Rattle.octets.specs.Believed.Choice.{pick}
use Rattle.octets.specs.Believed.Classes.{is_digit}
use Rattle.octets.proofs.ChoiceLaws.{both_parts}
use Rattle.octets.proofs.Parts.{from_here}
use Rattle.vectors.specs.Believed.Putting.{Text, text as text_of, putting}
use Rattle.vectors.proofs.PutLaws.{used_fits, front}
use Rattle.vectors.specs.Believed.Reading.{before, behind, digits_from, asked, copied, times, meant, piece, stays, decoded, braced}

-- ---- parts

-- a part up to the end
pub tail_part : (i : ℕ) (text : List ℕ) → take (length text - i) (drop i text) ≡ drop i text
tail_part i text = take_all (length text - i) (drop i text) (rw (length-drop i text) (omega arith))

-- ---- marks

-- no mark stands before a place
pub record NoneYet (mark : ℕ) (text : List ℕ) (i : ℕ) : Type 0 where
  pub inside : i ≤ length text
  pub front : before mark text ≡ take i text ++ before mark (drop i text)
  pub back : behind mark text ≡ behind mark (drop i text)

pub none_at_first : (mark : ℕ) (text : List ℕ) → NoneYet mark text 0
none_at_first mark text = record { inside = omega arith; front = refl; back = refl }

-- where a text is cut
abbrev pub CutAt : ℕ → List ℕ → ℕ → ℕ → Type 0
CutAt mark text at past = (take at text ≡ before mark text) × (drop past text ≡ behind mark text) × (at ≤ length text) × (past ≤ length text)

module _ {mark : ℕ} {text : List ℕ} {i : ℕ} (y : NoneYet mark text i) where
  -- the mark is here
  pub cut_here : i < length text → get_or text i 0 ≡ mark → CutAt mark text i (i + 1)
  unfolding before behind
  cut_here h e =
      let f : before mark text ≡ take i text ++ [] = y.front ∙ rw (from_here text i 0 h, eq-eqb (get_or text i 0) mark e) in
      let b : behind mark text ≡ drop (i + 1) text = y.back ∙ rw (from_here text i 0 h, eq-eqb (get_or text i 0) mark e) in
      (sym (f ∙ append-nil (take i text)), sym b, omega arith, omega arith)

  -- it is not here
  pub none_next : i < length text → (get_or text i 0 ≡ mark → ⊥) → NoneYet mark text (i + 1)
  unfolding before behind
  none_next h e =
      record {
        inside = omega arith;
        front = y.front
            ∙ rw (from_here text i 0 h, ne_eqb (get_or text i 0) mark e, add-one i, take-suc text i 0 h) (sym (append_assoc (take i text) (get_or text i 0 ∷ []) (before mark (drop (suc i) text))));
        back = y.back ∙ rw (from_here text i 0 h, ne_eqb (get_or text i 0) mark e);
      }

  -- it is nowhere
  pub cut_nowhere : length text ≤ i → CutAt mark text i i
  unfolding before behind
  cut_nowhere h =
      let d : drop i text ≡ [] = drop_of_length-le text {i = i} h in
      let f : before mark text ≡ take i text ++ [] = y.front ∙ rw d in
      (sym (f ∙ append-nil (take i text)), d ∙ sym (y.back ∙ rw d), y.inside, y.inside)

-- ---- numbers

pub digit_below : (b : ℕ) → b < 48 → false ≡ is_digit b
digit_below b h = rw (lt-leb 48 b h)

pub digit_above : (b : ℕ) → 48 ≤ b → leb b 57 ≡ is_digit b
digit_above b h = rw (le-leb 48 b h)

pub digit_range : (b : ℕ) → is_digit b ≡ true → (48 ≤ b) × (b ≤ 57)
digit_range b e = let p = both_parts (leb 48 b) (leb b 57) e in (leb-true 48 b p.0, leb-true b 57 p.1)

module _ (mark otherwise : ℕ) (head : List ℕ) {at past : ℕ} (c : CutAt mark head at past) where
  where_it_is : length (before mark head) ≡ at
  where_it_is = rw (← c.0) (length-take-le at head c.2)

  pub asked_behind : at < length head → digits_from 0 (drop past head) ≡ asked mark otherwise head
  asked_behind h = rw (where_it_is, lt-ltb at (length head) h, c.1)

  pub not_asked : length head ≤ at → otherwise ≡ asked mark otherwise head
  not_asked h = rw (where_it_is, le-ltb at (length head) h)

module _ (n : ℕ) (text : List ℕ) (i : ℕ) where
  pub digit_next : i < length text → is_digit (get_or text i 0) ≡ true → digits_from n (drop i text) ≡ digits_from (n % 1000000000000000000 * 10 + (get_or text i 0 - 48)) (drop (i + 1) text)
  unfolding digits_from
  digit_next h e = rw (from_here text i 0 h, e)

  pub no_digit : i < length text → is_digit (get_or text i 0) ≡ false → digits_from n (drop i text) ≡ n
  unfolding digits_from
  no_digit h e = rw (from_here text i 0 h, e)

  pub digits_end : length text ≤ i → digits_from n (drop i text) ≡ n
  unfolding digits_from
  digits_end h = rw (drop_of_length-le text {i = i} h)

-- ---- texts

module _ (b : ℕ) where
  pub meant_return : b ≡ 126 → 13 ≡ meant b
  unfolding meant
  meant_return e = rw (eq-eqb b 126 e)

  pub meant_feed : (b ≡ 126 → ⊥) → b ≡ 94 → 10 ≡ meant b
  unfolding meant
  meant_feed f e = rw (ne_eqb b 126 f, eq-eqb b 94 e)

  pub meant_zero : (b ≡ 126 → ⊥) → (b ≡ 94 → ⊥) → b ≡ 36 → 0 ≡ meant b
  unfolding meant
  meant_zero f g e = rw (ne_eqb b 126 f, ne_eqb b 94 g, eq-eqb b 36 e)

  pub meant_self : (b ≡ 126 → ⊥) → (b ≡ 94 → ⊥) → (b ≡ 36 → ⊥) → b ≡ meant b
  unfolding meant
  meant_self f g h = rw (ne_eqb b 126 f, ne_eqb b 94 g, ne_eqb b 36 h)

module _ (coded : Bool) (text : List ℕ) (i : ℕ) (rest : List ℕ) where
  pub copied_next : i < length text → copied coded (drop i text) rest ≡ pick coded (meant (get_or text i 0)) (get_or text i 0) ∷ copied coded (drop (i + 1) text) rest
  unfolding copied
  copied_next h = rw (from_here text i 0 h)

  pub copied_end : length text ≤ i → copied coded (drop i text) rest ≡ rest
  unfolding copied
  copied_end h = rw (drop_of_length-le text {i = i} h)

module _ (many i : ℕ) (text rest : List ℕ) where
  pub times_all : times many text rest ≡ times (many - 0) text rest
  times_all = let e : many - 0 ≡ many = omega arith in rw e

  pub times_next : i < many → times (many - i) text rest ≡ copied true text (times (many - (i + 1)) text rest)
  unfolding times
  times_next h = let e : many - i ≡ suc (many - (i + 1)) = omega arith in rw e

  pub times_none : many ≤ i → times (many - i) text rest ≡ rest
  unfolding times
  times_none h = let e : many - i ≡ 0 = omega arith in rw e

module _ (inner rest : List ℕ) {at past : ℕ} (c : CutAt 42 inner at past) where
  starred : length (before 42 inner) ≡ at
  starred = rw (← c.0) (length-take-le at inner c.2)

  pub braced_times : at < length inner → times (digits_from 0 inner) (drop past inner) rest ≡ braced inner rest
  unfolding braced
  braced_times h = rw (starred, lt-ltb at (length inner) h, c.1)

  pub braced_byte : length inner ≤ at → digits_from 0 inner % 256 ∷ rest ≡ braced inner rest
  unfolding braced
  braced_byte h = rw (starred, le-ltb at (length inner) h)

module _ (inside : Bool) (text : List ℕ) (i : ℕ) where
  pub decoded_next : i < length text → decoded inside (drop i text) ≡ piece inside (get_or text i 0) (drop (i + 1) text) (decoded (stays inside (get_or text i 0)) (drop (i + 1) text))
  unfolding decoded
  decoded_next h = rw (from_here text i 0 h)

  pub decoded_end : length text ≤ i → decoded inside (drop i text) ≡ []
  unfolding decoded
  decoded_end h = rw (drop_of_length-le text {i = i} h)

module _ (inside : Bool) (b : ℕ) (text rest : List ℕ) where
  pub piece_inside : inside ≡ true → rest ≡ piece inside b text rest
  unfolding piece
  piece_inside e = rw e

  pub piece_braced : inside ≡ false → b ≡ 123 → braced (before 125 text) rest ≡ piece inside b text rest
  unfolding piece
  piece_braced e f = rw (e, eq-eqb b 123 f)

  pub piece_byte : inside ≡ false → (b ≡ 123 → ⊥) → meant b ∷ rest ≡ piece inside b text rest
  unfolding piece
  piece_byte e f = rw (e, ne_eqb b 123 f)

-- nothing is left
pub decode_done : (text out after : List ℕ) (n : ℕ) → putting out 0 (decoded false text) ≡ putting after n []
    → (putting out 0 (decoded false text) ≡ text_of after n) × (n ≤ length out) × (take n after ≡ take (length out) (decoded false text))
unfolding putting
decode_done text out after n e =
    let u : (putting out 0 (decoded false text)).used ≡ n = ap (λ (t : Text). t.used) e in
    let b : (putting out 0 (decoded false text)).bytes ≡ after = ap (λ (t : Text). t.bytes) e in
    (e, rw (← u) (used_fits (decoded false text) out 0 (omega arith)), rw (← u, ← b) (front (decoded false text) out))
