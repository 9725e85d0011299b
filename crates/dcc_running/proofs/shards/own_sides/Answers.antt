use Rattle.std.proofs.Common.{◌≡◌, ℕ, ◌∙◌, [], ◌∷◌, length, length-append, ap, inl, inr, arith}
use Rattle.std.proofs.lemmas.List.{get_or_append_left, get_or_push}
use Rattle.dcc_running.specs.declared.lock.Side.{Side}
use Rattle.dcc_running.specs.declared.lock.Place.{Place}
use Rattle.dcc_running.proofs.Walks.{below_or_last}
use Rattle.dcc_running.proofs.shards.own_sides.Goals as goal

abbrev place_at : ℕ → ℕ → Place
place_at count index = record { index = index; count = count }

pub loop-alloc-preserved : goal.loop-alloc-preserved
loop-alloc-preserved c =
    let sides = c.loop-alloc.sides.items in
    let side : Side = record { place = record { index = c.len-index.result; count = c.args.count }; told = c.new.result; touches = c.new-in-loop-alloc.result } in
    let long : c.len-index.result ≡ length sides = omega (arith, c.len-index.ensures, c.loop-alloc.sides.ok.0) in record {
      few = omega arith;
      room = omega arith;
      own = rw c.push_reserved.ensures.items (λ i none within. elim (below_or_last i (length sides) (omega (arith, within, c.loop-alloc.sides.ok.0, length-append sides (side ∷ [])))) [
        | inl low ↦ rw (get_or_append_left sides (side ∷ []) none i low) (c.loop-alloc.invariant.own i none (omega (arith, low, c.loop-alloc.sides.ok.0)))
        | inr last ↦ rw (get_or_push sides side none i last) (ap (place_at c.args.count) (long ∙ last))
      ]);
      untold = rw c.push_reserved.ensures.items (λ i none within. elim (below_or_last i (length sides) (omega (arith, within, c.loop-alloc.sides.ok.0, length-append sides (side ∷ [])))) [
        | inl low ↦ rw (get_or_append_left sides (side ∷ []) none i low) (c.loop-alloc.invariant.untold i none (omega (arith, low, c.loop-alloc.sides.ok.0)))
        | inr last ↦ rw (get_or_push sides side none i last) c.new.ensures
      ]);
    }
