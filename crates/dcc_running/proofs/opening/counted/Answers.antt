use Rattle.std.proofs.Common.{◌≡◌, ℕ, length, slice_get, refl, ap, ◌∙◌}
use Rattle.std.proofs.lemmas.Option.{slice_get_read}
use Rattle.std.specs.Prelude.{Some}
use Rattle.dcc_shard.specs.Routes.{shard_of}
use Rattle.dcc_shard.specs.Shards.{held}
use Rattle.dcc_shard.specs.Stored.{StoredView}
use Rattle.dcc_running.specs.Books.{book, held_by}
use Rattle.dcc_running.specs.inner.Numbers.{number_of}
use Rattle.dcc_running.proofs.Numbering.{next_part}
use Rattle.dcc_running.proofs.opening.counted.Goals as goal

pub loop-i-preserved : goal.loop-i-preserved
loop-i-preserved g c = λ sub.
    let shards = c.args.shards.now in
    let i = c.loop-i.i in
    let part = c.index-shards-i.result in
    let there : slice_get shards i ≡ Some part = slice_get_read shards (length shards) i part refl c.loop-i-test.true c.index-shards-i.is in
    c.in-Ok.ensures sub
    ∙ next_part (shard_of sub (length shards)) i (book shards sub) (held part.shard sub) (number_of c.loop-i.numbers.entries sub) (c.loop-i.invariant sub)
    (λ some. c.requires.placed i part sub c.loop-i-test.true (λ none. some (ap (λ (p : StoredView _). held p.shard sub) c.index-shards-i.is ∙ none)))
    (λ e. ap (λ (k : ℕ). held_by (slice_get shards k) sub) e ∙ ap (λ o. held_by o sub) there)
