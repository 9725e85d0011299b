use Rattle.std.proofs.Common.{◌≡◌, ℕ, List, [], ◌∷◌, refl}
use Rattle.dcc_client.specs.Requests.{fields_of}
use Rattle.dcc_client.proofs.Texts.{get_written}
use Rattle.dcc_client.proofs.request.get_request.Goals as goal

pub returns-clause-text : goal.returns-clause-text
returns-clause-text c =
    let fields : (c.field.result.name.now, c.field.result.value.now) ∷ (c.field-2.result.name.now, c.field-2.result.value.now) ∷ [] ≡ fields_of c.args.host.now =
    rw (c.field.ensures.name, c.field.ensures.value, c.field-2.ensures.name, c.field-2.ensures.value) refl in
    get_written c.new-client.result c.write_request.new.self _ c.args.host.now c.args.target.now c.new-text.result.items c.write_request.new.output.items _
    c.new-client.ensures fields c.new-text.ensures.items c.in_ok-write_request.ensures.ok c.in_ok-write_request.ensures.next c.in_ok-write_end.ensures.ok
