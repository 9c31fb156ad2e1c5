-- `relay::from_node`: each way of a node's packet is the step's.
use mathlib.Core.Path.{◌∙◌}
use Rattle.std.proofs.Common.{sym, ap, rules}
use Rattle.steps.specs.Relay.{outcome_of}
use Rattle.relay.specs.Passages.{passing}
use Rattle.relay.proofs.Laws.{node_stray, node_outside, node_answers, node_last, node_next}
use Rattle.relay.proofs.Passage.from_node.Goals as goal

pub returns-then-stray_node : goal.returns-then-stray_node
returns-then-stray_node c =
    let g = c.args.self.now in
    ap outcome_of (sym (node_stray g.chain (passing g) c.requires (search rules)))

pub returns-then-not-member : goal.returns-then-not-member
returns-then-not-member c =
    let g = c.args.self.now in
    ap outcome_of (sym (node_outside g.chain (passing g) c.requires (search rules) (search rules)))

pub returns-then-self : goal.returns-then-self
returns-then-self c =
    let g = c.args.self.now in
    ap outcome_of (sym (node_answers g.chain (passing g) c.requires (search rules) (search rules) (search rules)))

pub returns-then-from-last : goal.returns-then-from-last
returns-then-from-last c =
    let g = c.args.self.now in
    ap outcome_of (sym (node_last g.chain (passing g) c.requires (search rules) (search rules) (search rules) (search rules)))

pub returns : goal.returns
returns c =
    let g = c.args.self.now in
    c.unless_stopped.ensures _
    ∙ ap outcome_of (sym (node_next g.chain (passing g) c.requires (search rules) (search rules) (search rules) (λ l. search rules) c.next.ensures))
