use Rattle.std.proofs.Common.{◌≡◌, ℕ, List, [], ◌∷◌, length, codes, refl}
use Rattle.http1.specs.declared.conn.BodySize.TheVariants.{Known}
use Rattle.dcc_client.specs.Requests.{fields_of_content}
use Rattle.dcc_client.proofs.Texts.{is_sent, post_written}
use Rattle.dcc_client.proofs.request.post_request.Goals as goal

pub returns-clause-text : goal.returns-clause-text
returns-clause-text c =
    let fields : (c.field.result.name.now, c.field.result.value.now) ∷ (c.field-2.result.name.now, c.field-2.result.value.now)
    ∷ (c.field-3.result.name.now, c.field-3.result.value.now) ∷ [] ≡ fields_of_content c.args.host.now =
    rw (c.field.ensures.name, c.field.ensures.value, c.field-2.ensures.name, c.field-2.ensures.value, c.field-3.ensures.name, c.field-3.ensures.value) refl in
    post_written c.new-client.result c.write_request.new.self c.write_data.new.self _ _ c.args.host.now c.args.target.now c.args.content.now c.new-text.result.items
    c.write_request.new.output.items c.write_data.new.output.items _
    c.new-client.ensures fields refl c.new-text.ensures.items c.in_ok-write_request.ensures.ok c.in_ok-write_request.ensures.next
    c.in_ok-write_data.ensures.ok c.in_ok-write_data.ensures.counted c.in_ok-write_end.ensures.ok

pub returns-clause-sent : goal.returns-clause-sent
returns-clause-sent c =
    let fields = (c.field.result.name.now, c.field.result.value.now) ∷ (c.field-2.result.name.now, c.field-2.result.value.now)
    ∷ (c.field-3.result.name.now, c.field-3.result.value.now) ∷ [] in
    is_sent c.new-client.result c.write_request.new.self c.write_data.new.self c.write_end.new.self (codes "POST") c.args.target.now (Known (length c.args.content.now)) fields _ _ _
    c.write_request.result c.in_ok-write_request.field-0
    c.new-client.ensures c.in_ok-write_request.was c.write_request.ensures.outcome c.in_ok-write_request.ensures.next
    c.in_ok-write_data.ensures.counted c.in_ok-write_end.ensures.done
