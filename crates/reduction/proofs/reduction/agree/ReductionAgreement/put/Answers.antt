use Rattle.std.proofs.Common.{sym, ap, ◌∙◌, subst, rules}
use Rattle.std.proofs.lemmas.Bool.{leb-true}
use Rattle.roster.specs.Checks.{answer}
use Rattle.carrier.proofs.Puts.{put_granted}
use Rattle.reduction.specs.Parts.{layer_of}
use Rattle.reduction.proofs.Acts.{granted, keeps_by, put_kept, put_open, put_puts, put_same}
use Rattle.reduction.proofs.reduction.agree.ReductionAgreement.put.Goals as goal

pub returns-clause-value : goal.returns-clause-value
returns-clause-value g c =
    let l = layer_of g.C.Carrier g.B.Agreement c.args.self.now in
    let o = put_open l c.args.seat c.args.code (sym (granted _ _ c.check_code.ensures (search rules))) in
    c.put_above.ensures.value ∙ ap (λ d. answer d tt) (put_same l c.args.seat c.args.code o)

pub returns-clause-after : goal.returns-clause-after
returns-clause-after g c k =
    let l = layer_of g.C.Carrier g.B.Agreement c.args.self.now in
    let o = put_open l c.args.seat c.args.code (sym (granted _ _ c.check_code.ensures (search rules))) in
    let free = (put_granted l.carrier c.args.seat 1 (granted _ _ c.put_above.ensures.value k)).1 in
    put_puts g.C.Carrier g.B.Agreement c.args.self.now c.put_above.new.self c.args.seat o.is_sound c.args.code (search rules) free (leb-true _ _ o.small) o.whole

pub returns-clause-keeps : goal.returns-clause-keeps
returns-clause-keeps g c =
    let s = c.args.self.now in
    let e = c.put_above.new.self in
    let l = layer_of g.C.Carrier g.B.Agreement s in
    let o = put_open l c.args.seat c.args.code (sym (granted _ _ c.check_code.ensures (search rules))) in
    keeps_by g.C.Carrier g.B.Agreement s e c.put_above.result o.whole c.put_above.ensures.same (λ k good.
    let free = (put_granted l.carrier c.args.seat 1 (granted _ _ c.put_above.ensures.value k)).1 in
    record {
      carrier_ok = c.put_above.ensures.keeps good.carrier_ok;
      below_ok = subst g.B.Agreement.ok (sym (c.put_above.ensures.after k).same_below) good.below_ok;
      kept = put_kept g.C.Carrier g.B.Agreement s e c.args.seat o.is_sound c.args.code (search rules) free (leb-true _ _ o.small) good.kept;
    })
