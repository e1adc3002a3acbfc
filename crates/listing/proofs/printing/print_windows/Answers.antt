-- `listing::printing::print_windows` meets its contract: each window is put behind those before it. Assumes nothing.
use Rattle.std.proofs.Common.{◌+◌, length, subst, rules, sym, ◌∙◌}
use Rattle.std.proofs.lemmas.List.{take_all}
use Rattle.std.proofs.lemmas.Result.{on_err_weaker}
use native.Mathlib.Omega.{arith}
use Rattle.std.specs.Io.KnownBytes.{Appends}
use Rattle.std.proofs.KnownBytes.{Appends-trans}
use Rattle.listing.specs.Believed.Listing.{listing}
use Rattle.listing.proofs.WindowLaws.{on_ok, window_full, window_last, left_of}
use Rattle.listing.proofs.printing.print_windows.Goals as goal

pub returns-then-left-window-clause-printed : goal.returns-then-left-window-clause-printed
returns-then-left-window-clause-printed g c =
    let a = c.args in
    let l = c.loop-from in
    let wrote = c.write_listing-whole in
    let whole = window_last (listing a.edition a.message.now) l.window wrote.new.text l.from wrote.result wrote.ensures.0 (omega arith) wrote.ensures.1 (search rules) in
    on_ok c.write_text.result (λ last. subst (Appends _ _) whole (Appends-trans _ _ _ _ _ l.invariant.2 last)) c.write_text.ensures.written

pub returns-then-left-window-clause-left : goal.returns-then-left-window-clause-left
returns-then-left-window-clause-left g c =
    let a = c.args in
    let l = c.loop-from in
    let wrote = c.write_listing-whole in
    let text = listing a.edition a.message.now in
    let whole = window_last text l.window wrote.new.text l.from wrote.result wrote.ensures.0 (omega arith) wrote.ensures.1 (search rules) in
    let all = take_all (length text) text (omega arith) in
    on_err_weaker c.write_text.result (left_of _ _ _ text _ l.from (length text) l.invariant.1 (whole ∙ sym all) l.invariant.2) c.write_text.ensures.left

pub returns-in-Err-clause-left : goal.returns-in-Err-clause-left
returns-in-Err-clause-left g c =
    let a = c.args in
    let l = c.loop-from in
    let wrote = c.write_listing-whole in
    let text = listing a.edition a.message.now in
    let more = window_full text l.window wrote.new.text l.from wrote.ensures.1 (search rules) (search rules) in
    let contents = g.W.Write.contents in
    let front = left_of (contents a.output.now) (contents l.output) (contents c.write_text-in-loop-from.new.output) text wrote.new.text l.from (l.from + length wrote.new.text) l.invariant.1 more l.invariant.2 c.in-Err.ensures.left in
    search (rules, front)

pub loop-from-preserved : goal.loop-from-preserved
loop-from-preserved g c =
    let a = c.args in
    let l = c.loop-from in
    let wrote = c.write_listing-whole in
    let more = window_full (listing a.edition a.message.now) l.window wrote.new.text l.from wrote.ensures.1 (search rules) (search rules) in
    (search rules, search rules, subst (Appends _ _) more (Appends-trans _ _ _ _ _ l.invariant.2 c.in_default.ensures.written))
