use Rattle.std.proofs.Common.{cond, Option, sym, ap, ◌∙◌, bytes_eq}
use Rattle.std.specs.Prelude.{unwrap_or}
use Rattle.dcc_openers.specs.Found.{noted}
use Rattle.dcc_openers.specs.Names.{NamesView, found_in}
use Rattle.dcc_openers.specs.declared.found.Found.{Found}
use Rattle.dcc_openers.specs.declared.found.Found.TheVariants as found
use Rattle.dcc_openers.proofs.Noting.{on_success, either_found}
use Rattle.dcc_openers.proofs.names.Names.note.Goals as goal

pub returns-clause-noted : goal.returns-clause-noted
returns-clause-noted c s =
    let names = c.self.inside.names.entries in
    rw (← c.self.view_is) (ap (λ (o : Option Found). unwrap_or o found.None) ((on_success c.insert.result c.unwrap.result _ c.unwrap.ensures c.insert.ensures.updates).0 s)
    ∙ either_found (bytes_eq c.args.sid s) c.noted-found.result _
    ∙ ap (λ (o : Found). cond (bytes_eq c.args.sid s) o (found_in names s))
    (c.noted-found.ensures ∙ ap (λ (o : Found). noted o c.args.sub) c.find.ensures ∙ ap (λ (v : NamesView). noted (found_in v.names c.args.sid) c.args.sub) (sym c.self.view_is)))
