-- `solve::solve_from_zeros` meets its contract, by whether a move was found too many. Assumes nothing.
use Rattle.std.proofs.Common.{◌∙◌}
use Rattle.counts.proofs.Entry.{zeros_ready, part_done, part_stopped}
use Rattle.counts.proofs.solve.solve_from_zeros.Goals as goal

pub make_moves-requires : goal.make_moves-requires
make_moves-requires c = zeros_ready c.requires (c.fill.ensures.after (λ y e. e))

pub returns-in_default : goal.returns-in_default
returns-in_default c =
    part_stopped c.requires (c.fill.ensures.after (λ y e. e)) c.args.limit c.in_default.ensures
    (c.fill-in_default.ensures.after (λ y e. e)) (c.make_moves.auto.counts ∙ c.fill.auto.self)

pub returns : goal.returns
returns c = part_done c.requires (c.fill.ensures.after (λ y e. e)) c.args.limit c.in-Some.ensures
