use Rattle.std.proofs.Common.{◌+◌, ◌≤◌, arith}
use Rattle.indexmap.specs.IndexMap.{index_map_len, spare}
use Rattle.dcc_account.proofs.Moves.{moved, got, some_match}
use Rattle.dcc_account.proofs.growth.grow_map.Goals as goal

pub returns-in-Some-clause-entries : goal.returns-in-Some-clause-entries
returns-in-Some-clause-entries g c =
    let larger = c.in-Some.larger in
    let room = some_match c.args.larger larger (1 ≤ spare c.args.entries.now) (λ m. index_map_len c.args.entries.now + 1 ≤ spare m) c.in-Some.is c.requires.room in
    moved g.K.PartialEq.eq g.met.K.Eq.laws larger c.append.new.self c.args.entries.now (c.requires.empty larger c.in-Some.is) c.len-count.ensures.unique
    (got c.append.result _ (c.append.ensures.succeeds (omega (arith, room))) c.append.ensures.inserts)
