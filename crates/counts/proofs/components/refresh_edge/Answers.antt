-- `components::refresh_edge` meets its contract, by whether the edge is of the component. Assumes nothing.
use mathlib.Core.Path.{refl}
use Rattle.counts.specs.inner.Components.{left_alone, renewed}
use Rattle.counts.proofs.components.refresh_edge.Goals as goal

pub returns-then-label-component : goal.returns-then-label-component
returns-then-label-component c = left_alone c.if-label-component.true refl refl refl

pub returns : goal.returns
returns c = renewed c.if-label-component.false c.set_costs.ensures.0 c.set_costs.ensures.1 refl
