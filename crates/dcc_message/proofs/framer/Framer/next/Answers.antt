use Rattle.std.proofs.Common.{sym}
use Rattle.dcc_message.proofs.Held.{front_of_held}
use Rattle.dcc_message.proofs.framer.Framer.next.Goals as goal

pub returns-in-Some-clause-message : goal.returns-in-Some-clause-message
returns-in-Some-clause-message c =
    sym (front_of_held _ c.in-Some.message c.pop_front.new.self.items c.self.inside.begun.items _ c.self.invariant c.in-Some.ensures.items c.self.view_is).first

pub returns-in-Some-clause-left : goal.returns-in-Some-clause-left
returns-in-Some-clause-left c =
    sym (front_of_held _ c.in-Some.message c.pop_front.new.self.items c.self.inside.begun.items _ c.self.invariant c.in-Some.ensures.items c.self.view_is).after

pub returns-in-Some-clause-fault : goal.returns-in-Some-clause-fault
returns-in-Some-clause-fault c =
    let fine = (front_of_held _ c.in-Some.message c.pop_front.new.self.items c.self.inside.begun.items _ c.self.invariant c.in-Some.ensures.items c.self.view_is).fine in
    λ f. (λ e. absurd cc, λ e. absurd cc)
