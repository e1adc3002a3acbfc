use mathlib.Core.Path.{sym, ◌∙◌}
use native.Mathlib.Omega.{arith}
use Rattle.scanner.proofs.CharacterLaws.{return_kind, no_return, plain_first}
use Rattle.scanner.proofs.MoveLaws.{literal_on}
use Rattle.scanner.proofs.InsideLaws.{literal_kind}
use Rattle.scanner.proofs.past_literal_text.Goals as goal

pub loop-p-preserved : goal.loop-p-preserved
loop-p-preserved c =
    let classes = c.args.classes.now in
    let text = c.args.text.now in
    let p = c.loop-p.p in
    let k = c.kind_of.ensures in
    let d = c.in_default in
    let x = plain_first classes text p (omega arith) (no_return text p (λ e. d.not-Return (k ∙ sym (return_kind classes _ e)))) k in
    record {
      same = λ start. (literal_on (record { same = c.loop-p.invariant.same start }) x (literal_kind _ d.not-Return d.not-Above d.not-Backslash d.not-OpenBracket d.not-CloseBracket)).same;
      from = omega (arith, c.loop-p.invariant.from);
      within = omega arith;
    }
