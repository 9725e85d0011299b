use Rattle.std.proofs.Common.{rules, arith, ◌≡◌, ℕ, List, Result, Err, Some, drop, length, refl, sym, subst, ap}
use Rattle.std.proofs.lemmas.List.{length-drop}
use Rattle.dcc_avp.specs.Spelling.{AvpView}
use Rattle.dcc_avp.specs.Reading.{FaultView, Tells, avps_of}
use Rattle.dcc_request.specs.Layout.{layout_fault}
use Rattle.dcc_dispatch.specs.Messages.{MessageView, message_view}
use Rattle.dcc_dispatch.specs.inner.Headings.{fault_of}
use Rattle.dcc_dispatch.proofs.Lists.{layout_told, read_where, read_fits, rest_of}
use Rattle.dcc_dispatch.proofs.message.Message.read.Goals as goal

pub invariant_of-result : goal.invariant_of-result
invariant_of-result c =
    let octets = c.args.octets.now in
    let avps = c.in-Ok.avps.items in
    (search rules, read_fits octets avps c.requires (omega (arith, c.in-Ok.ensures.within, length-drop 20 octets)))

pub returns-in-Err : goal.returns-in-Err
returns-in-Err c =
    let octets = c.args.octets.now in
    let fault = c.in-Err.fault in
    let unread : MessageView = record { header = c.args.header; list = Err (fault_of fault) } in
    let told : Tells fault (λ seen. avps_of (drop 20 octets) ≡ Err seen) =
    subst (λ (bs : List ℕ). Tells fault (λ seen. avps_of bs ≡ Err seen)) (rest_of 20 (length octets) octets refl) c.in-Err.ensures.exact in
    read_where c.unread.result unread (message_view c.args.header octets) (layout_fault fault ≡ Some (fault_of fault))
    (λ is. ap (λ (list : Result (List AvpView) FaultView). record { header = c.args.header; list = list }) (sym (layout_told fault (avps_of (drop 20 octets)) is told)))
    c.unread.ensures.message c.unread.ensures.layout
