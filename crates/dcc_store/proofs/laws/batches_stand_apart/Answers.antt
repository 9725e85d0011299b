use Rattle.dcc_store.proofs.Batches.{each_grows, others_stay, first_alone, joined}
use Rattle.dcc_store.proofs.laws.batches_stand_apart.Goals as goal

pub returns : goal.returns
returns c = record {
  own = each_grows c.same_subscribers_are_equal.ensures;
  others = others_stay c.same_subscribers_are_equal.ensures;
  first = first_alone c.same_subscribers_are_equal.ensures;
  join = joined;
}
