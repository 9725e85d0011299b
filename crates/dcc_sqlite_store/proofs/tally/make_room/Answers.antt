use Rattle.std.proofs.Common.{◌≡◌, None, rules}
use Rattle.std.specs.Map.{lookup}
use Rattle.std.specs.Ordering.{is_eq}
use Rattle.dcc_store.specs.Books.{sub_order}
use Rattle.dcc_sqlite_store.specs.inner.Tallies.{no_tally}
use Rattle.dcc_sqlite_store.proofs.Tallying.{room_made, place_kept}
use Rattle.dcc_sqlite_store.proofs.tally.make_room.Goals as goal

pub returns-in_ok-insert-clause-same : goal.returns-in_ok-insert-clause-same
returns-in_ok-insert-clause-same c =
    let none : lookup (λ key. is_eq (sub_order c.args.sub key)) c.args.tallies.now.entries ≡ None = search rules in
    room_made c.args.tallies.now.entries c.insert.new.self.entries c.args.sub c.same_subscribers_are_equal.ensures none (λ q. c.in_ok-insert.ensures.updates.0 q)

pub returns-in_ok-insert-clause-stays : goal.returns-in_ok-insert-clause-stays
returns-in_ok-insert-clause-stays c = λ other place. place_kept c.args.tallies.now.entries c.insert.new.self.entries c.args.sub no_tally (λ q. c.in_ok-insert.ensures.updates.0 q) other place
