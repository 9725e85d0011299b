use Rattle.std.proofs.Common.{◌≡◌, List, length, refl, sym, ap, ◌∙◌, arith}
use Rattle.std.specs.Prelude.{vec_capacity}
use Rattle.dcc_act.specs.Journals.{JournalView}
use Rattle.dcc_act.specs.declared.entry.Entry.{Entry}
use Rattle.dcc_expiry.specs.Deadlines.{DueView}
use Rattle.dcc_account.proofs.Steps.{as_many, fits_of, room_of}
use Rattle.indexmap.specs.IndexMap.{spare as map_spare}
use Rattle.indexmap.specs.IndexSet.{spare as set_spare}
use Rattle.dcc_account.proofs.account.Account.larger.Goals as goal

pub returns-clause-fits : goal.returns-clause-fits
returns-clause-fits c =
    let own = c.self.inside in
    let many = as_many own.terms own.acts.acts own.outcomes.items own.entries.items c.self.invariant.kept in
    let held : own.outcomes.len ≡ length own.acts.acts = omega (arith, many) in
    let written : own.entries.len ≡ length own.entries.items = omega arith in
    let open_ones : own.sessions.len ≡ length own.sessions.items = omega arith in
    λ is_one.
    let one = sym is_one in
    rw (← c.self.view_is)
    (record {
      acts = room_of (λ (journal : JournalView). journal.spare) c.in_ok-larger_journal.field-0 c.args.more _ _ one c.in_ok-larger_journal.ensures.room;
      outcomes = fits_of (λ v. vec_capacity v) c.in_ok-larger.field-0 own.outcomes.len c.args.more own.outcomes.cap _ 1 (sym held) one c.in_ok-larger.ensures.room;
      entries =
          fits_of (λ v. vec_capacity v) c.in_ok-larger-2.field-0 own.entries.len c.args.entries own.entries.cap _ c.args.entries
          (sym (written ∙ ap (λ (es : List Entry). length es) c.self.invariant.kept.entries_are)) refl c.in_ok-larger-2.ensures.room;
      sessions = fits_of (λ v. vec_capacity v) c.in_ok-larger-3.field-0 own.sessions.len 1 own.sessions.cap (length own.sessions.items) 1 (sym open_ones) refl c.in_ok-larger-3.ensures.room;
      due = room_of (λ (due : DueView). due.room) c.in_ok-larger-4.field-0 c.args.more _ _ one c.in_ok-larger-4.ensures.room;
      requests = room_of (λ m. map_spare m) c.in_ok-larger-5.field-0.requests c.args.more _ _ one c.in_ok-larger-5.ensures.room.requests;
      tickets = room_of (λ m. map_spare m) c.in_ok-larger-5.field-0.tickets c.args.more _ _ one c.in_ok-larger-5.ensures.room.tickets;
      opened = room_of (λ s. set_spare s) c.in_ok-larger-5.field-0.opened c.args.more _ _ one c.in_ok-larger-5.ensures.room.opened;
    })
