-- A query whose rows are read one after another.
use Rattle.std.proofs.Common.{◌≡◌, ◌≤◌, inl, inr, ℕ, List, Ok, sym, subst}
use Rattle.sqlite.specs.declared.error.Error.{Error}
use Rattle.sqlite.specs.Order.{Row}
use Rattle.sqlite.specs.Effect.{Database, RefusesToRead}
use Rattle.sqlite.specs.Clock.{timed}
use Rattle.sqlite.specs.Listing.{understood, reads_listing, IsSourceOf}
use Rattle.sqlite.specs.State.{State, IsStatement, IsUnchanged, IsNotRun, FailsToShow, FailsToQuery, Shown, ShowsRows}
use Rattle.sqlite.specs.Given.{IsPlain}
use Rattle.sqlite.proofs.Callers.{unchanged_then}
use Rattle.sqlite.proofs.StreamLemmas.{fails_since}

-- what is said of a query since a state is said of it since each earlier state from which nothing changed
module _ (sql : List ℕ) (params : Row) (old mid new : State) (plain : IsPlain (understood old.now.schema sql)) (same : IsUnchanged old mid) where
  abbrev statement_since : (c : _) → IsStatement mid sql params c → IsStatement old sql params c
  statement_since c h = record { is = subst (λ (d : Database). understood d.schema sql ≡ Ok c) same.0.now_is h.is; whole = h.whole; given = h.given; now = h.now }

  source_since : (db : Database) → IsSourceOf (reads_listing mid.now.schema sql) mid.now db → IsSourceOf (reads_listing old.now.schema sql) old.now db
  source_since db = subst (λ (d : Database). IsSourceOf (reads_listing d.schema sql) d db) same.0.now_is

  pub shown_since : (rows : List Row) → Shown sql params mid new rows → Shown sql params old new rows
  unfolding Shown
  shown_since rows h =
      let was = statement_since h.0 h.1 in
      let none = (subst IsPlain was.is plain).0 in
      let full = timed params h.0.formats h.1.now in
      let it = subst (ShowsRows mid new sql h.0 full rows) none h.2 in
      (h.0, was, subst (ShowsRows old new sql h.0 full rows) (sym none) (it.0, source_since it.0 it.1, it.2, unchanged_then old mid new same it.3))

  pub fails_to_query_since : (e : Error) → old.faults ≤ mid.faults → mid.step_limit ≡ old.step_limit → FailsToQuery sql params mid new e → FailsToQuery sql params old new e
  unfolding FailsToQuery IsNotRun
  fails_to_query_since e counts limit (inl (inl h)) = inl (inl (rw (← same.0.now_is) h.0, unchanged_then old mid new same h.1))
  fails_to_query_since e counts limit (inl (inr h)) = inl (inr (fails_since old mid new same counts e h))
  fails_to_query_since e counts limit (inr h) =
      let was = statement_since h.0 h.1 in
      let none = (subst IsPlain was.is plain).0 in
      let full = timed params h.0.formats h.1.now in
      let it = subst (FailsToShow mid new sql h.0 full e) none h.2 in
      inr (
        h.0,
        was,
        subst (FailsToShow old new sql h.0 full e) (sym none)
            (it.0, source_since it.0 it.1, subst (λ l. RefusesToRead l h.0.command it.0 full e) limit it.2, unchanged_then old mid new same it.3),
      )
