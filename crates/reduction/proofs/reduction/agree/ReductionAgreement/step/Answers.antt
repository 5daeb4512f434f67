use Rattle.std.proofs.Common.{◌≡◌, true, sym}
use Rattle.settling.specs.Layers.{matched}
use Rattle.settling.proofs.Effects.{carried_kept, lowered_kept}
use Rattle.reduction.specs.Parts.{layer_of}
use Rattle.reduction.proofs.Acts.{act_kept, act_moves, below_same, carrier_same, granted, keeps_by, wake_granted}
use Rattle.reduction.proofs.reduction.agree.ReductionAgreement.step.Goals as goal

pub returns-in-0-clause-after : goal.returns-in-0-clause-after
returns-in-0-clause-after g c k =
    let s = c.args.self.now in
    let l = layer_of g.C.Carrier g.B.Agreement s in
    let done = c.wake.ensures in
    let x = wake_granted l c.args.by (granted _ _ done.value k) in
    act_moves g.C.Carrier g.B.Agreement s c.wake.new.self c.args.by.to x.is_sound (sym c.if-not-is_whole.ensures) x.act x.is_due x.taken (done.does x.act x.is_due k)

pub returns-in-0-clause-keeps : goal.returns-in-0-clause-keeps
returns-in-0-clause-keeps g c =
    let s = c.args.self.now in
    let e = c.wake.new.self in
    let l = layer_of g.C.Carrier g.B.Agreement s in
    let done = c.wake.ensures in
    let whole : matched l ≡ true = sym c.if-not-is_whole.ensures in
    keeps_by g.C.Carrier g.B.Agreement s e c.wake.result whole done.same (λ k good.
    let x = wake_granted l c.args.by (granted _ _ done.value k) in
    record {
      carrier_ok = done.above good.carrier_ok;
      below_ok = done.below good.below_ok;
      kept = act_kept g.C.Carrier g.B.Agreement s e c.args.by.to x.is_sound whole good x.act x.is_due x.taken (done.does x.act x.is_due k);
    })

pub returns-in-1-clause-keeps : goal.returns-in-1-clause-keeps
returns-in-1-clause-keeps g c =
    let s = c.args.self.now in
    let l = layer_of g.C.Carrier g.B.Agreement s in
    let done = c.step.ensures in
    keeps_by g.C.Carrier g.B.Agreement s _ c.step.result (sym c.if-not-is_whole.ensures) (λ f. carrier_same s _ (done.same f)) (λ k good. record {
      carrier_ok = done.keeps good.carrier_ok;
      below_ok = good.below_ok;
      kept = carried_kept l _ (done.after k) good.kept;
    })

pub returns-in_default-clause-keeps : goal.returns-in_default-clause-keeps
returns-in_default-clause-keeps g c =
    let s = c.args.self.now in
    let l = layer_of g.C.Carrier g.B.Agreement s in
    let done = c.step-in_default.ensures in
    keeps_by g.C.Carrier g.B.Agreement s _ c.step-in_default.result (sym c.if-not-is_whole.ensures) (λ f. below_same s _ (done.same f)) (λ k good. record {
      carrier_ok = good.carrier_ok;
      below_ok = done.keeps good.below_ok;
      kept = lowered_kept l _ (done.after k) good.kept;
    })
