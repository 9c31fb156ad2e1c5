-- `relay::client_head`: the head of what goes to a client, for a query and for an answer.
use mathlib.Core.Path.{◌∙◌}
use Rattle.std.proofs.Common.{[], refl, sym, ap}
use Rattle.wire.specs.Packet.{Packet, value_of}
use Rattle.relay.specs.Passages.{passing}
use Rattle.relay.proofs.Laws.{client_query, client_answer, length_read}
use Rattle.relay.proofs.Passage.client_head.Goals as goal

pub returns-then-self : goal.returns-then-self
returns-then-self c = c.answer_head.ensures [] refl ∙ ap (λ (q : Packet). q.head) (sym (client_query (passing c.args.self.now) c.if-self.true))

pub returns : goal.returns
returns c =
    let g = c.args.self.now in
    c.answer_head-2.ensures (value_of g.packet.now) (length_read g) ∙ ap (λ (q : Packet). q.head) (sym (client_answer (passing g) c.if-self.false))
