-- The loop over the symbols of a body. Assumes nothing.
use Prim.Native.Nat.{ℕ}
use mathlib.Core.Path.{◌≡◌, refl, sym, ap, ◌∙◌}
use mathlib.Core.List.{List, []}
use native.Mathlib.Omega.{arith}
use lib.Seq.{sets}
use Rattle.octets.specs.Believed.Numbers.{level_limit}
use Rattle.octets.specs.Believed.Text.{part}
use Rattle.records.specs.Believed.AddressRecords.{table_bytes}
use Rattle.scanner.specs.Believed.Scanning.{scan_by}
use Rattle.scanner.specs.Believed.Answers.{next_of}
use Rattle.scanner.specs.declared.Symbol.{Symbol}
use Rattle.scanner.specs.declared.Next.{Next}
use Rattle.scanner.specs.declared.Next.TheVariants.{Found}
use Rattle.scanner.specs.Ties.Meanings.{meaning_at}
use Rattle.grammar.specs.Believed.Language.{unfinished}
use Rattle.grammar.specs.Executable.Machines.{ended, stopped, at_end, stands_by}
use Rattle.grammar.specs.Executable.Trees733.{Class, Atom, as_forest}
use Rattle.grammar.specs.Executable.Machine733.{State, step_on, step, run, judge, as_forests, answer}
use Rattle.grammar.specs.Executable.Machine733 as machine
use Rattle.grammar.proofs.Rfc733.TreeRecords.{tree_records, tree_count}
use Rattle.addresses.specs.Ties.Steps.{symbols_from, symbols_ahead, lexeme_at}
use Rattle.addresses.specs.Ties.Whole.{Body, WholeIs}
use Rattle.addresses.proofs.NextLaws.{NextIs, next_is}
use Rattle.engine.specs.declared.actions.Mode.TheVariants.{AtPlace}
use Rattle.engine.specs.Ties.Stands.{Stands}
use Rattle.engine.specs.Ties.Turns.{IsNew, Follows, GoesTo, StopsBy, Turning, span, engine_by, FinishedIs}
use Rattle.engine.specs.Ties.Expecting.{stop_of, ReadsAll, RunIs}
use Rattle.engine.specs.declared.Stack.{Stack}
use Rattle.engine.specs.declared.Engine.{Engine}
use Rattle.engine.specs.declared.Stopped.{Stopped}
use Rattle.octets.specs.Believed.Answers.{fault}
use Rattle.std.specs.Prelude.{None, Some}
use Rattle.grammar.specs.declared.Whole.{Whole}
use Rattle.grammar.specs.declared.Whole.TheVariants.{Listed, Refused}

-- ---- symbol by symbol

-- the reader has come to a state of the machine
pub record Reading (classes text lent : List ℕ) (from : ℕ) (e : Engine) (stack : Stack) (table : List ℕ) : Type 0 where
  pub state : State
  pub stands : Stands text lent state e stack table
  pub reads : run level_limit machine.start (symbols_from classes text from) ≡ run level_limit state (symbols_from classes text e.at)
  pub stood : stop_of classes text from ≡ stands_by step level_limit state (symbols_from classes text e.at)

pub reading_start : (classes text lent : List ℕ) (stack : Stack) {at : ℕ} → IsNew stack → Body classes text at
    → Reading classes text lent at (engine_by AtPlace 0 (span at at) at) stack lent
reading_start classes text lent stack n b =
    record {
      state = machine.start;
      stands = record {
        ordered = record { start_low = omega arith; name_low = omega arith; inside = b.inside; deep = omega (arith, n.none); short = b.short; tall = n.tall };
        mode_is = refl;
        depth_is = n.none;
        free_is = omega arith;
        room = omega arith;
        holds = tt;
        current = tt;
        stored = refl;
      };
      reads = refl;
      stood = refl;
    }

meaning_is : (classes text : List ℕ) (c : Class) (start end : ℕ) → c ≡ Atom → meaning_at classes text c start end ≡ part text start end
meaning_is classes text c start end e = rw e

-- the next symbol follows
follows : {classes text : List ℕ} {at : ℕ} {f : Symbol} → NextIs classes text at (Found f) → Follows text at f.class (lexeme_at classes text f.class f.start f.end f.apart) f.start f.end
follows {classes} {text} {f = f} x =
    record { start_is = refl; end_is = refl; from = x.ok.0; starts = x.ok.1.starts; within = x.ok.1.within; meaning = meaning_is classes text f.class f.start f.end }

stands_as : {text lent : List ℕ} {s s' : State} {e : Engine} {stack stack' : Stack} {table : List ℕ} → s' ≡ s → stack' ≡ stack → Stands text lent s e stack table → Stands text lent s' e stack' table
stands_as p q x = rw (p, q) x

module _ {classes text lent : List ℕ} {from : ℕ} {e : Engine} {stack : Stack} {table : List ℕ} (r : Reading classes text lent from e stack table) where
  pub reading_next : {next : Next} → next ≡ next_of (scan_by classes text e.at) → NextIs classes text e.at next
  reading_next {next} i = next_is classes text e.at next i

  pub reading_turning : {f : Symbol} → NextIs classes text e.at (Found f) → Turning text lent r.state (lexeme_at classes text f.class f.start f.end f.apart) e f.class f.start f.end stack table
  reading_turning x = record { stands = r.stands; follows = follows x }

  -- one symbol on
  pub reading_on : {f : Symbol} {e' : Engine} {stack' : Stack} {table' : List ℕ} → NextIs classes text e.at (Found f) → GoesTo text lent (step_on level_limit r.state f.class (lexeme_at classes text f.class f.start f.end f.apart)) f.end e' stack' table'
      → Reading classes text lent from e' stack' table'
  reading_on x g =
      record {
        state = g.state;
        stands = g.stands;
        reads = r.reads ∙ ap (run level_limit r.state) x.same ∙ rw (g.steps, g.at_is) refl;
        stood = r.stood ∙ ap (stands_by step level_limit r.state) x.same ∙ rw (g.steps, g.at_is) refl;
      }

  -- the symbol is refused
  pub reading_stops : {f : Symbol} {n : ℕ} {stack' : Stack} (after : List ℕ) → NextIs classes text e.at (Found f) → StopsBy (step_on level_limit r.state f.class (lexeme_at classes text f.class f.start f.end f.apart)) n stack stack'
      → RunIs classes text lent from stack' after (record { engine = e; fault = Some (fault n f.start) })
  reading_stops {f} after x g =
      let v : run level_limit machine.start (symbols_from classes text from) ≡ stopped g.why (symbols_ahead classes text (Found f)) = r.reads ∙ ap (run level_limit r.state) x.same ∙ rw g.steps refl in
      record {
        records = table;
        stands = stands_as (r.stood ∙ ap (stands_by step level_limit r.state) x.same ∙ rw g.steps refl) g.kept r.stands;
        stops = record { why = g.why; rest = symbols_ahead classes text (Found f); verdict_is = ap as_forests (ap judge v); number_is = g.number_is; place_is = refl };
      }

  -- no symbol is left
  pub reading_ends : symbols_from classes text e.at ≡ [] → RunIs classes text lent from stack table (record { engine = e; fault = None })
  reading_ends x =
      let q : stop_of classes text from ≡ r.state = r.stood ∙ ap (stands_by step level_limit r.state) x in
      record { records = table; stands = stands_as q refl r.stands; stops = record { reads = r.reads ∙ ap (run level_limit r.state) x ∙ ap ended (sym q); kept = refl } }

-- ---- the end

module _ {classes text lent : List ℕ} {from : ℕ} {r : Stopped} {stack : Stack} {table : List ℕ} (x : RunIs classes text lent from stack table r) (n : r.fault ≡ None) where
  all_read : ReadsAll classes text from x.records table
  all_read = rw n at x.stops

  pub ended_stands : Stands text lent (stop_of classes text from) r.engine stack table
  ended_stands = rw all_read.kept x.stands

  pub ended_whole : (after : List ℕ) (w : Whole) → FinishedIs text lent (stop_of classes text from) after w → WholeIs (answer level_limit) classes text from lent after w
  ended_whole after (Listed n) f =
      record {
        derivation = as_forest f.tree;
        verdict_is = ap as_forests (ap judge all_read.reads ∙ ap at_end f.is);
        count_is = omega (arith, f.count_is, tree_count f.tree);
        stored = f.stored ∙ ap (λ rs. sets lent 0 (table_bytes rs)) (sym (tree_records f.tree));
      }
  ended_whole after (Refused n p) f =
      record { why = unfinished; rest = []; verdict_is = ap as_forests (ap judge all_read.reads ∙ ap at_end f.is); number_is = f.number_is; place_is = f.place_is }
