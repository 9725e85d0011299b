use Rattle.std.proofs.Common.{◌≡◌, ◌++◌, ◌∷◌, [], ap, subst, ◌∙◌, arith, List, ℕ, take, Vec, Global, is_ok, true}
use Rattle.dcc_message.specs.inner.Frames.{IsMessage, Completes}
use Rattle.dcc_message.proofs.Held.{completed, held_more}
use Rattle.dcc_message.proofs.framer.Framer.feed.Goals as goal

pub invariant_of-self-2 : goal.invariant_of-self-2
invariant_of-self-2 c =
    let message : c.replace.result.items ≡ c.self.inside.begun.items ++ c.split_at.result.0.now =
    ap (λ (v : Vec ℕ Global). v.items) c.replace.ensures.value ∙ c.in_ok-extend_from_slice.ensures.items in
    let ok : is_ok c.append.result ≡ true = c.append.ensures.succeeds (omega (arith, c.in_ok-reserve.ensures.ok, c.in_ok-reserve.ensures.len, c.push_back_reserved.ensures.len, c.push_back_reserved.ensures.capacity, c.len.ensures)) in
    let appended : c.append.new.self.items ≡ c.push_back_reserved.new.self.items ++ c.in_ok-later.later.ready.items = rw ok at c.append.ensures.items in
    let ready : c.append.new.self.items ≡ (c.self.inside.ready.items ++ c.replace.result ∷ []) ++ c.in_ok-later.later.ready.items = cc (appended, c.push_back_reserved.ensures.items, c.in_ok-reserve.ensures.items) in
    let begun : c.replace.new.dest.items ≡ c.in_ok-later.later.begun.items = ap (λ (v : Vec ℕ Global). v.items) c.replace.ensures.after in
    let whole : IsMessage (c.self.inside.begun.items ++ take c.in-Some.count c.args.piece.now) =
    (let P : List ℕ → Type 0 = λ b. Completes b c.args.piece.now c.in-Some.count in
    completed _ _ _ (subst P c.deref.ensures.value c.in-Some.ensures.some)) in
    let is : c.self.inside.begun.items ++ take c.in-Some.count c.args.piece.now ≡ c.replace.result.items = cc (c.split_at.ensures.front, message) in
    rw (ready, begun) (held_more _ _ c.replace.result _ c.self.invariant.messages (subst IsMessage is whole) c.in_ok-later.ensures.held)
