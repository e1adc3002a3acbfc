-- The loop of RFC 822 over the symbols of a text. Assumes nothing.
use Prim.Native.Nat.{ℕ, ◌≤◌}
use native.Mathlib.Omega.{arith}
use mathlib.Core.Path.{◌≡◌, refl, sym, ap, ◌∙◌}
use mathlib.Core.Bool.{true, false}
use mathlib.Core.List.{List, [], ◌∷◌}
use Rattle.std.specs.Prelude.{Some, None, is_none}
use lib.ListN.{length}
use lib.Seq.{sets}
use Rattle.octets.specs.Believed.Choice.{both}
use Rattle.octets.specs.Believed.Numbers.{level_limit, ends_too_soon, no_list_goes_on}
use Rattle.records.specs.Believed.AddressRecords.{AddressRecord, table_bytes}
use Rattle.records.specs.declared.Span.{Span}
use Rattle.scanner.specs.declared.Symbol.{Symbol}
use Rattle.scanner.specs.declared.Next.{Next}
use Rattle.scanner.specs.declared.Next.TheVariants.{Found, Ended, Fault}
use Rattle.scanner.specs.Believed.Answers.{next_of}
use Rattle.scanner.specs.Believed.Scanning.{scan_by}
use Rattle.grammar.specs.Believed.Language.{unfit, unfinished}
use Rattle.grammar.proofs.Any.Records.{length-records}
use Rattle.grammar.specs.Executable.Trees733.{Sym, of}
use Rattle.grammar.specs.Executable.Machine822.{start}
use Rattle.grammar.proofs.Rfc822.Condition3.{decides}
use Rattle.addresses.specs.Believed.Editions.{class_in822, taken_in822}
use Rattle.addresses.specs.Ties.Steps.{symbols_from, lexeme_at}
use Rattle.addresses.specs.Ties.Whole.{IsListed, IsRefused}
use Rattle.addresses.proofs.NextLaws.{NextIs, next_is}
use Rattle.editions.specs.Believed.Outcome.{verdict822}
use Rattle.editions.specs.Ties.Places.{Walked, step_from, ends, stops, walk_from, ends_at}
use Rattle.editions.specs.declared.Walk.{Walk}
use Rattle.editions.specs.Ties.Walks.{walked_of, Fine, Holds, Besides, Goes, Stops}
use Rattle.editions.proofs.Follows.{walked_in}
use Rattle.editions.proofs.Verdicts.{loop_listed, loop_unfinished, loop_stopped}

module _ (classes text : List ℕ) where
  abbrev words : ℕ → List Sym
  words at = taken_in822 (symbols_from classes text at)

  -- the loop has come to a position
  pub record Come (at : ℕ) (lent table : List ℕ) (p : ℕ) (w : Walk) : Type 0 where
    pub rs : List AddressRecord
    pub holds : Holds w rs lent table
    pub fine : Fine w
    pub same : walk_from (walked_in start 0 0) (words at) ≡ walk_from (walked_of w rs) (words p)
    pub few : w.free ≤ p
    pub inside : p ≤ length text

  -- a symbol as RFC 822 takes it
  abbrev word_of : Symbol → Sym
  word_of f = of (class_in822 f.class f.start f.end) (lexeme_at classes text f.class f.start f.end f.apart)

  abbrev pub span_of : Symbol → Span
  span_of f = record { start = f.start; end = f.end }

  abbrev besides : Symbol → Besides
  besides f = record { meaning = (word_of f).lexeme.meaning; apart = f.apart }

  next_words : {p : ℕ} {f : Symbol} → NextIs classes text p (Found f) → words p ≡ word_of f ∷ words f.end
  next_words x = ap taken_in822 x.same

  run_step : (f g : Walked) (x : Sym) (xs : List Sym) → step_from f x ≡ Some g → walk_from f (x ∷ xs) ≡ walk_from g xs
  run_step f g x xs e = rw (e, walk_from)

  run_stop : (f : Walked) (x : Sym) (xs : List Sym) → step_from f x ≡ None → walk_from f (x ∷ xs) ≡ stops (x ∷ xs)
  run_stop f x xs e = rw (e, walk_from)

  pub come_on : {at p : ℕ} {f : Symbol} {lent table after : List ℕ} {w v : Walk} → Come at lent table p w → NextIs classes text p (Found f)
      → Goes w (class_in822 f.class f.start f.end) (span_of f) table after v → Come at lent after f.end v
  come_on {f = f} {lent = lent} {w = w} {v = v} c x g =
      let (ss, h, q) = g.steps (besides f) c.rs lent c.holds in
      record {
        rs = ss;
        holds = h;
        fine = g.fine;
        same = c.same ∙ ap (walk_from (walked_of w c.rs)) (next_words x) ∙ run_step (walked_of w c.rs) (walked_of v ss) (word_of f) (words f.end) q;
        few = omega (arith, g.few, c.few, x.ok.0, x.ok.1.starts);
        inside = x.ok.1.within;
      }

  pub stop_at : {at p : ℕ} {f : Symbol} {lent table after : List ℕ} {w : Walk} → Come at lent table p w → NextIs classes text p (Found f)
      → Stops w (class_in822 f.class f.start f.end) (span_of f) table after → IsRefused verdict822 classes text at no_list_goes_on f.start
  stop_at {at} {f = f} {lent = lent} {w = w} c x g =
      let t = word_of f in
      record {
        why = unfit;
        rest = t ∷ words f.end;
        verdict_is = loop_stopped level_limit 0 0 (words at) (t ∷ words f.end)
            (c.same ∙ ap (walk_from (walked_of w c.rs)) (next_words x) ∙ run_stop (walked_of w c.rs) t (words f.end) (g.stops (besides f) c.rs lent c.holds));
        number_is = refl;
        place_is = refl;
      }

  -- where the next is no symbol, none is left
  pub none_left : (p : ℕ) (r : Next) → r ≡ next_of (scan_by classes text p) → ((x : Symbol) → r ≡ Found x → ⊥) → symbols_from classes text p ≡ []
  none_left p (Found x) e h = absurd (h x refl)
  none_left p Ended e h = (next_is classes text p Ended e).same
  none_left p (Fault n q) e h = (next_is classes text p (Fault n q) e).same

  at_end_lem : {at p : ℕ} {lent table : List ℕ} {w : Walk} → (c : Come at lent table p w) → symbols_from classes text p ≡ [] → walk_from (walked_in start 0 0) (words at) ≡ ends (walked_of w c.rs)
  at_end_lem {w = w} c e = c.same ∙ ap (λ (xs : List Sym). walk_from (walked_of w c.rs) (taken_in822 xs)) e

  pub end_listed : {at p : ℕ} {lent table : List ℕ} {w : Walk} → Come at lent table p w → symbols_from classes text p ≡ [] → both (ends_at w.place) (is_none w.group) ≡ true → IsListed verdict822 classes text at lent table w.free
  end_listed {at} {lent = lent} {w = w} c e d =
      let (k, v, r) = loop_listed level_limit 0 0 (words at) (walked_of w c.rs) (at_end_lem c e) d in
      record {
        derivation = k;
        verdict_is = v;
        count_is = sym c.holds.counted ∙ ap length r ∙ length-records k;
        stored = c.holds.stored ∙ ap (λ (rs : List AddressRecord). sets lent 0 (table_bytes rs)) r;
      }

  pub end_unfinished : {at p : ℕ} {lent table : List ℕ} {w : Walk} → Come at lent table p w → symbols_from classes text p ≡ [] → both (ends_at w.place) (is_none w.group) ≡ false → IsRefused verdict822 classes text at ends_too_soon (length text)
  end_unfinished {at} {w = w} c e d =
      let (rest, v) = loop_unfinished level_limit 0 0 (words at) (walked_of w c.rs) (at_end_lem c e) d in
      let q : rest ≡ [] = (rw v at (decides.right level_limit (omega arith) (words at))).0 in
      record { why = unfinished; rest = rest; verdict_is = v; number_is = refl; place_is = rw q }
