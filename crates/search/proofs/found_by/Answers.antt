-- `search::found_by` meets its contract: what is read off the areas is the pass's own (`passed`). Assumes nothing.
use Rattle.search.proofs.Passes.{passed}
use Rattle.search.proofs.found_by.Goals as goal

pub returns : goal.returns
returns c =
    let end = c.end_state-end in
    let t = c.trace-t in
    passed c.args.metrics.now c.args.start.now c.args.scores.now c.args.decisions.now end.result t.result.word t.result.start
    c.requires.ran end.ensures.0 end.ensures.1 t.ensures.0 t.ensures.1 c.top_gain-gain.ensures
