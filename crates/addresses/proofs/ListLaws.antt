-- A list, address by address. Assumes nothing.
use mathlib.Core.Path.{◌≡◌, refl, sym, ap, ◌∙◌}
use mathlib.Core.Bool.{Bool, false, true≢false}
use mathlib.Core.List.{List, ◌∷◌}
use Prim.Native.Nat.{ℕ, ◌+◌, ◌*◌, ◌-◌, ◌≤◌}
use native.Mathlib.Omega.{arith}
use lib.ListN.{length}
use lib.Seq.{sets}
use Rattle.scanner.specs.declared.Next.{Next}
use Rattle.scanner.specs.Believed.Answers.{found_at}
use Rattle.records.specs.Believed.AddressRecords.{table_bytes, address_record_size}
use Rattle.octets.specs.Believed.Numbers.{level_limit}
use Rattle.grammar.specs.Executable.Trees733.{Class, Comma, Lexeme, Sym, of, empty, comma, AddressList, idle, full}
use Rattle.grammar.proofs.Rfc733.Trees.{atom_colon}
use Rattle.grammar.specs.Executable.Machine733.{in_list, Level, list, levels_at, nameless, fresh, run, judge}
use Rattle.grammar.proofs.Rfc733.Complete.{done_list, Clear, complete_done_list}
use Rattle.grammar.proofs.Rfc733.Readers.{AddressEnds, ListEnds, ends_address}
use Rattle.grammar.proofs.Rfc733.TreeRecords.{list_count, list_records}
use Rattle.grammar.proofs.RecordLaws.{stored_behind}
use Rattle.addresses.specs.Ties.Steps.{symbols_from, lexeme_at, symbols_on, symbols_ahead, Comes, AddressRead, AddressStops, ListRead, ListStops}
use Rattle.addresses.specs.declared.Frame.{Frame}
use Rattle.addresses.proofs.NextLaws.{NextIs}

-- ---- the machine in a list

run_comma : (n : ℕ) (k : Level) (l : AddressList) (t : Lexeme) (ys : List Sym) → run n (done_list k l) (of Comma t ∷ ys) ≡ run n (list k (idle (comma l t))) ys
run_comma n k l t ys = rw (complete_done_list k l)

-- an address may begin at a place
abbrev ClearAt : Level → AddressList → List Sym → Type 0
ClearAt k (idle r) ys = Clear (fresh (in_list k r)) (atom_colon ys)
ClearAt k (full r a) ys = Unit {0}

-- after an address only what ends it stands
abbrev Behind : AddressList → List Sym → Type 0
Behind (idle r) ys = Unit {0}
Behind (full r a) ys = AddressEnds ys

module _ (classes text : List ℕ) where
  -- the list so far
  pub record ListSoFar (at : ℕ) (frame : Frame) (table after : List ℕ) (ahead : Next) (last free : ℕ) : Type 0 where
    pub tree : AddressList
    pub reads : (k : Level) → Clear (nameless k) (atom_colon (symbols_from classes text at)) → run (levels_at k + frame.level.left) (list k (idle empty)) (symbols_from classes text at) ≡ run (levels_at k + frame.level.left) (done_list k tree) (symbols_ahead classes text ahead)
    pub clear : (k : Level) → Clear (nameless k) (atom_colon (symbols_from classes text at)) → ClearAt k tree (symbols_ahead classes text ahead)
    pub behind : Behind tree (symbols_ahead classes text ahead)
    pub ahead_ok : Comes classes text last ahead
    pub count : free ≡ frame.number + list_count tree
    pub stored : after ≡ sets table (frame.number * address_record_size) (table_bytes (list_records tree (level_limit - frame.level.left) frame.level.parent frame.number))
    pub from : at ≤ last
    pub within : last ≤ length text
    pub free_low : free ≤ last

  pub list_start : {at : ℕ} {frame : Frame} (table : List ℕ) (ahead : Next) → at ≤ length text → frame.number ≤ at → NextIs classes text at ahead → ListSoFar at frame table table ahead at frame.number
  list_start {at} {frame} table ahead inside low x =
      record {
        tree = idle empty;
        reads = λ k c. ap (run (levels_at k + frame.level.left) (list k (idle empty))) x.same;
        clear = λ k c. rw (← x.same) c;
        behind = tt;
        ahead_ok = x.ok;
        count = omega arith;
        stored = refl;
        from = omega arith;
        within = inside;
        free_low = low;
      }

  module _ {at : ℕ} {frame : Frame} {table now : List ℕ} where
    pub list_comma : {a b size last free : ℕ} {apart : Bool} (ahead : Next) → ListSoFar at frame table now (found_at Comma a b size apart) last free → NextIs classes text b ahead → ListSoFar at frame table now ahead b free
    list_comma {a} {b} {apart = apart} ahead w x =
        record {
          tree = idle (comma w.tree (lexeme_at classes text Comma a b apart));
          reads = λ k c. w.reads k c ∙ run_comma (levels_at k + frame.level.left) k w.tree (lexeme_at classes text Comma a b apart) (symbols_from classes text b)
              ∙ ap (run (levels_at k + frame.level.left) (list k (idle (comma w.tree (lexeme_at classes text Comma a b apart))))) x.same;
          clear = λ k c. tt;
          behind = tt;
          ahead_ok = x.ok;
          count = w.count;
          stored = w.stored;
          from = omega (arith, w.from, w.ahead_ok.0, w.ahead_ok.1.starts);
          within = w.ahead_ok.1.within;
          free_low = omega (arith, w.free_low, w.ahead_ok.0, w.ahead_ok.1.starts);
        }

    -- one address more
    pub list_address : {class : Class} {a b size last free last' free' : ℕ} {apart : Bool} (after : List ℕ) (ahead : Next) → ListSoFar at frame table now (found_at class a b size apart) last free → ends_address class ≡ false
        → AddressRead classes text (symbols_on classes text class a b apart) record { level = frame.level; number = free } a now after ahead last' free'
        → ListSoFar at frame table after ahead last' free'
    list_address {class} {a} {b} {free = free} {last' = last'} {free' = free'} {apart = apart} after ahead w f r = by w.tree w.reads w.clear w.behind w.count w.stored
      where
        by : (l : AddressList)
            → ((k : Level) → Clear (nameless k) (atom_colon (symbols_from classes text at)) → run (levels_at k + frame.level.left) (list k (idle empty)) (symbols_from classes text at) ≡ run (levels_at k + frame.level.left) (done_list k l) (symbols_on classes text class a b apart))
            → ((k : Level) → Clear (nameless k) (atom_colon (symbols_from classes text at)) → ClearAt k l (symbols_on classes text class a b apart))
            → Behind l (symbols_on classes text class a b apart) → free ≡ frame.number + list_count l
            → now ≡ sets table (frame.number * address_record_size) (table_bytes (list_records l (level_limit - frame.level.left) frame.level.parent frame.number)) → ListSoFar at frame table after ahead last' free'
        by (idle p) reads clear behind count stored =
            record {
              tree = full p r.tree;
              reads = λ k c. reads k c ∙ r.reads (in_list k p) (clear k c);
              clear = λ k c. tt;
              behind = r.ends;
              ahead_ok = r.ahead_ok;
              count = omega (arith, r.count);
              stored = rw (stored, count) at r.stored ∙ stored_behind table frame.number p r.tree (level_limit - frame.level.left) frame.level.parent;
              from = omega (arith, w.from, w.ahead_ok.0, r.from);
              within = r.within;
              free_low = r.free_low;
            }
        by (full p x) reads clear behind count stored = absurd (true≢false (sym behind ∙ f))

    pub list_stops : {class : Class} {a b size last free number-told place : ℕ} {apart : Bool} → ListSoFar at frame table now (found_at class a b size apart) last free → ends_address class ≡ false
        → AddressStops classes text (symbols_on classes text class a b apart) record { level = frame.level; number = free } number-told place → ListStops classes text at frame number-told place
    list_stops {class} {a} {b} {apart = apart} w f s =
        record { why = s.why; rest = s.rest; number_is = s.number_is; place_is = s.place_is; stops = λ k c. by k w.tree (w.reads k c) (w.clear k c) w.behind }
      where
        by : (k : Level) (l : AddressList) → run (levels_at k + frame.level.left) (list k (idle empty)) (symbols_from classes text at) ≡ run (levels_at k + frame.level.left) (done_list k l) (symbols_on classes text class a b apart)
            → ClearAt k l (symbols_on classes text class a b apart) → Behind l (symbols_on classes text class a b apart)
            → judge (run (levels_at k + frame.level.left) (list k (idle empty)) (symbols_from classes text at)) ≡ Rattle.grammar.specs.Believed.Language.refused s.why s.rest
        by k (idle p) reads clear behind = ap judge reads ∙ s.stops (in_list k p) clear
        by k (full p x) reads clear behind = absurd (true≢false (sym behind ∙ f))

    pub list_end : {last free : ℕ} (ahead : Next) → ListSoFar at frame table now ahead last free → ListEnds (symbols_ahead classes text ahead) → ListRead classes text at frame table now ahead last free
    list_end ahead w e =
        record { tree = w.tree; reads = w.reads; ends = e; ahead_ok = w.ahead_ok; count = w.count; stored = w.stored; from = w.from; within = w.within; free_low = w.free_low }
