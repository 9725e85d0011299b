use Rattle.std.proofs.Common.{◌≡◌, false, ◌+◌, sym, ap, ◌∙◌, refl, arith, rules}
use Rattle.dcc_act.specs.declared.entry.Entry.{Entry}
use Rattle.dcc_sqlite_rows.specs.Rows.{sub_octets, entry_row}
use Rattle.dcc_sqlite_rows.proofs.EntryRows.{too_few, differs_at, all_rows}
use Rattle.dcc_sqlite_rows.proofs.entries.begin_with.Goals as goal

pub returns-then-rows-entries : goal.returns-then-rows-entries
returns-then-rows-entries c = (λ e. absurd cc, λ same. absurd (too_few (sub_octets c.args.sub) c.args.place c.args.entries.now c.args.rows.now c.if-rows-entries.true same))

pub returns-then-not-is_entry_row : goal.returns-then-not-is_entry_row
returns-then-not-is_entry_row c =
    let sub = sub_octets c.args.sub in
    let r = c.index-rows-i.result in
    let e = c.index-entries-i.result in
    let no : c.is_entry_row.result ≡ false = search rules in (
      λ e. absurd cc,
      λ same. absurd (differs_at sub c.args.place c.args.entries.now c.args.rows.now c.loop-i.i r e c.loop-i-test.true
          (λ is. let yes = c.is_entry_row.ensures.1 (c.index-rows-i.is ∙ is ∙ ap (λ (it : Entry). entry_row sub c.args.place (c.loop-i.i + 1) it) (sym c.index-entries-i.is)) in absurd (let f = sym no ∙ yes in cc)) same),
    )

pub returns : goal.returns
returns c =
    (λ _. all_rows (sub_octets c.args.sub) c.args.place c.args.entries.now c.args.rows.now c.if-rows-entries.false (λ k r e below. c.loop-i.invariant k r e (omega arith)), λ _. refl)
