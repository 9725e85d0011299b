use Rattle.std.proofs.Common.{◌==◌, ◌∙◌, Bool, inl, inr, sym, subst}
use Rattle.dcc_act.specs.declared.sub.Sub.{Sub}
use Rattle.std.specs.Map.{keys_of}
use Rattle.std.proofs.lemmas.Bool.{cases_Bool, eqb-true, eq-eqb}
use Rattle.dcc_shard.specs.Shards.{is_among}
use Rattle.dcc_shard.specs.Routes.{shard_of}
use Rattle.dcc_shard.specs.inner.Books.{BooksView, AreBooks}
use Rattle.dcc_shard.proofs.Ordered.{some_held, none_held}
use Rattle.dcc_shard.proofs.Placed.{each_of, all_of}
use Rattle.dcc_shard.proofs.books.Books.are_placed.Goals as goal

pub returns : goal.returns
returns c =
    let rows = c.args.self.now.rows in
    let law = c.same_subscribers_are_equal.ensures in
    let test : Sub → Bool = λ sub. shard_of sub c.args.count == c.args.index in
    let books = subst (λ (b : BooksView). AreBooks b.rows b.terms) c.self.view_is c.self.invariant in (
      λ all sub some.
          elim (cases_Bool (is_among sub (keys_of rows))) [
            | inl among ↦ eqb-true (shard_of sub c.args.count) c.args.index (each_of law test (keys_of rows) sub (sym c.keys_are_placed.ensures ∙ all) among)
            | inr apart ↦ absurd (some (none_held rows sub apart))
          ],
      λ placed. c.keys_are_placed.ensures ∙ all_of law test (keys_of rows)
          (λ sub among. eq-eqb (shard_of sub c.args.count) c.args.index (placed sub (some_held rows sub (books.begun sub) among))),
    )
