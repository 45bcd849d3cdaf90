use Rattle.std.proofs.Common.{string_bytes, refl, ◌∙◌}
use Rattle.bank.specs.Drawers.{known_of, open_bay}
use Rattle.replies.specs.Lines.{said}
use Rattle.serve.proofs.Going.{going_none, going_more, going_end}
use Rattle.serve.proofs.serving.serve_rest.Goals as goal

pub loop-placed-init : goal.loop-placed-init
loop-placed-init g c =
    let s = g.F.Field.structure in
    record {
      sheet = refl;
      going = λ k w₀ sound new st look. going_none s known_of open_bay g.R.Reading.meaning g.W.Watch.sees k sound new _ _ w₀ _ _ _ st look;
    }

pub loop-placed-preserved : goal.loop-placed-preserved
loop-placed-preserved g c =
    let s = g.F.Field.structure in
    let next = c.answer_frame-next in
    record {
      sheet = next.auto.sheet ∙ c.loop-placed.invariant.sheet;
      going = λ k w₀ sound new st look.
          going_more s known_of open_bay g.R.Reading.meaning g.W.Watch.sees k sound new _ (string_bytes c.args.text.now) w₀ (c.loop-placed.invariant.going k w₀ sound new st look)
          c.next.new.self.now c.in-Some.placed c.in-Some.ensures.steps next.result.0 next.new.rack c.show_call.new.watch (said next.result.1) (string_bytes c.add_line.new.text) c.in_ok-add_line.ensures next.ensures c.show_call.ensures;
    }

pub returns : goal.returns
returns g c l w₀ sound new st look =
    let s = g.F.Field.structure in
    rw c.into_iter-placed-iterator.ensures.into_iter_gives at
    (going_end s known_of open_bay g.R.Reading.meaning g.W.Watch.sees l sound new _ (string_bytes c.args.text.now) w₀ (c.loop-placed.invariant.going l w₀ sound new st look) c.in-None.ensures.steps)
