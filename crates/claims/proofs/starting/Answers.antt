-- What `chain::start` promises is the event.
use mathlib.Core.Path.{sym, ap, ◌∙◌}
use Rattle.std.proofs.lemmas.Result.{MatchResult-at_ok}
use Rattle.wire.specs.Numbers.{ok}
use Rattle.chain.proofs.Rules.{start_says}
use Rattle.claims.proofs.Events.{start_event}
use Rattle.claims.proofs.starting.Goals as goal

pub returns : goal.returns
returns c =
    let s = c.start-done in
    start_event (ap ok s.ensures.chain ∙ sym (MatchResult-at_ok _ _ _ c.in_ok-done.was (start_says _ _ _ s.result.1 s.ensures.number)))
