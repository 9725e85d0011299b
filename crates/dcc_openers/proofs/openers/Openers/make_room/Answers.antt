use Rattle.std.proofs.Common.{◌≡◌, ◌≤◌, Some, rules, arith, sym, ap, ◌∙◌}
use Rattle.std.specs.Option.{option_copied_mut}
use Rattle.dcc_openers.specs.Openers.{OpenersView, HasRoomFor, KeepsRoom, names_of}
use Rattle.dcc_openers.proofs.Noting.{found_still, room_written, room_after, on_ok}
use Rattle.dcc_openers.proofs.openers.Openers.make_room.Goals as goal

pub returns-in-Some-clause-same : goal.returns-in-Some-clause-same
returns-in-Some-clause-same c =
    let was = c.in-Some.names.now in
    let is : names_of c.self.inside.hosts.entries c.args.host.now ≡ Some was = sym (ap option_copied_mut (sym c.in-Some.is) ∙ c.get_mut.ensures.value) in
    rw (← c.self.view_is) (found_still c.self.inside.hosts.entries _ c.args.host.now was c.make_room.new.self is ((c.get_mut.follows.holds c.make_room.new.self).3 (search rules)).0 c.make_room.ensures.same)

pub returns-in-Some-clause-room : goal.returns-in-Some-clause-room
returns-in-Some-clause-room c =
    let names = c.make_room.new.self in
    on_ok c.make_room.result (c.args.number ≤ names.room) (HasRoomFor (c.get_mut.follows.lender names).entries c.args.host.now c.args.number)
    (λ room. room_written c.self.inside.hosts.entries (c.get_mut.follows.lender names).entries c.args.host.now c.args.number names ((c.get_mut.follows.holds names).3 (search rules)).0 room) c.make_room.ensures.room

pub returns-in-Some-clause-kept : goal.returns-in-Some-clause-kept
returns-in-Some-clause-kept c =
    let was = c.in-Some.names.now in
    let is : names_of c.self.inside.hosts.entries c.args.host.now ≡ Some was = sym (ap option_copied_mut (sym c.in-Some.is) ∙ c.get_mut.ensures.value) in
    let kept = c.make_room.ensures.kept in
    rw (← c.self.view_is) (λ h number there. room_after c.self.inside.hosts.entries _ c.args.host.now was c.make_room.new.self 0 is ((c.get_mut.follows.holds c.make_room.new.self).3 (search rules)).0
    (omega (arith, kept)) h number number (omega arith) there)
