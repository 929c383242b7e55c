use mathlib.Core.Path.{refl, ◌∙◌}
use Rattle.mapping.proofs.MapImages.{mapping-start, asked-component, components-next, map-written}
use native.Mathlib.Omega.{arith}
use Rattle.mapping.proofs.map_of.Goals as goal

pub loop-size-init : goal.loop-size-init
loop-size-init c = let a = c.args in (refl, λ S k. mapping-start S a.out.now)

pub cycle_images-requires : goal.cycle_images-requires
cycle_images-requires c =
    let l = c.loop-size in
    asked-component c.requires l.invariant.0 l.invariant.1 (omega arith)

pub loop-size-preserved : goal.loop-size-preserved
loop-size-preserved c =
    let l = c.loop-size in
    let call = c.cycle_images in (
      call.auto.out ∙ l.invariant.0,
      components-next c.requires l.invariant.0 l.invariant.1 (omega arith) call.new.out call.ensures,
    )

pub returns : goal.returns
returns c = map-written c.requires c.loop-size.invariant.1 (omega arith)
