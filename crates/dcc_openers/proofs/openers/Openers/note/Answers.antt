use Rattle.std.proofs.Common.{◌≡◌, ◌+◌, ◌≤◌, Some, rules, arith, sym, ap, subst, ◌∙◌}
use Rattle.std.specs.Option.{option_copied_mut}
use Rattle.dcc_openers.specs.Openers.{OpenersView, names_of}
use Rattle.dcc_openers.specs.declared.names.Names.{Names}
use Rattle.dcc_openers.proofs.Noting.{found_noted, room_after}
use Rattle.dcc_openers.proofs.openers.Openers.note.Goals as goal

pub note-requires : goal.note-requires
note-requires c =
    let was = c.unwrap-names.result.now in
    let is : names_of c.self.inside.hosts.entries c.args.host.now ≡ Some was = sym (ap option_copied_mut (sym c.unwrap-names.ensures) ∙ c.get_mut.ensures.value) in
    let there : Some c.requires.names ≡ Some was = sym c.requires.is ∙ ap (λ (rows : OpenersView). names_of rows c.args.host.now) (sym c.self.view_is) ∙ is in
    let one : c.requires.names ≡ was = cc in
    subst (λ (names : Names). 1 ≤ names.room) one c.requires.room

pub returns-clause-noted : goal.returns-clause-noted
returns-clause-noted c =
    let was = c.unwrap-names.result.now in
    let is : names_of c.self.inside.hosts.entries c.args.host.now ≡ Some was = sym (ap option_copied_mut (sym c.unwrap-names.ensures) ∙ c.get_mut.ensures.value) in
    rw (← c.self.view_is) (found_noted c.self.inside.hosts.entries _ c.args.host.now c.args.sid c.args.sub was c.note.new.self is ((c.get_mut.follows.holds c.note.new.self).3 (search rules)).0 c.note.ensures.noted)

pub returns-clause-room : goal.returns-clause-room
returns-clause-room c =
    let was = c.unwrap-names.result.now in
    let is : names_of c.self.inside.hosts.entries c.args.host.now ≡ Some was = sym (ap option_copied_mut (sym c.unwrap-names.ensures) ∙ c.get_mut.ensures.value) in
    rw (← c.self.view_is) (λ h number there. room_after c.self.inside.hosts.entries _ c.args.host.now was c.note.new.self 1 is ((c.get_mut.follows.holds c.note.new.self).3 (search rules)).0
    c.note.ensures.room h (number + 1) number (omega arith) there)
