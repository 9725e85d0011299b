use Rattle.std.proofs.Common.{◌≡◌, ◌∙◌, ap, refl, sym, None, Some, Ok, Err}
use Rattle.dcc_message.specs.Headers.{header_of}
use Rattle.dcc_message.specs.Streams.{first_message}
use Rattle.dcc_connect.proofs.Nexting.{next_fault, next_none, next_unread, next_read, nexts_err}
use Rattle.dcc_connect.proofs.turns.next_message.Goals as goal

pub returns-in_err-message : goal.returns-in_err-message
returns-in_err-message c =
    let is = (c.in_err-message.ensures.fault c.in_err-message.field-0.0).0 refl in
    nexts_err c.from_residual.result _ c.args.framer.now c.next.new.self c.from_residual.ensures.1 (next_fault c.stream_laws.ensures c.args.framer.now c.in_err-message.field-0.0 is)

pub returns-in_default : goal.returns-in_default
returns-in_default c =
    let none : first_message c.args.framer.now ≡ None = sym (rw c.in_default.is at c.in_ok-message.ensures.message) in
    next_none c.stream_laws.ensures c.args.framer.now c.next.new.self none c.next.ensures.left (λ f e. let bad = (c.in_ok-message.ensures.fault f).1 e in absurd cc)

pub returns-in_err-read_header : goal.returns-in_err-read_header
returns-in_err-read_header c =
    let first : first_message c.args.framer.now ≡ Some c.in-Some.message.items = sym (rw c.in-Some.is at c.in_ok-message.ensures.message) in
    let bad : header_of c.in-Some.message.items ≡ Err c.in_err-read_header.field-0.0 = ap header_of (sym c.deref.ensures.value) ∙ sym c.in_err-read_header.ensures.exact in
    nexts_err c.from_residual-in_err-read_header.result _ c.args.framer.now c.next.new.self c.from_residual-in_err-read_header.ensures.1
    (next_unread c.stream_laws.ensures c.args.framer.now c.next.new.self c.in-Some.message.items c.in_err-read_header.field-0.0 first c.next.ensures.left bad)

pub returns : goal.returns
returns c =
    let first : first_message c.args.framer.now ≡ Some c.in-Some.message.items = sym (rw c.in-Some.is at c.in_ok-message.ensures.message) in
    let good : header_of c.in-Some.message.items ≡ Ok c.in_ok-read_header.field-0 = ap header_of (sym c.deref.ensures.value) ∙ sym c.in_ok-read_header.ensures.exact in
    rw c.from_vec.ensures (next_read c.stream_laws.ensures c.args.framer.now c.next.new.self c.in-Some.message.items c.in_ok-read_header.field-0 first c.next.ensures.left good)
