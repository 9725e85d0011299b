-- Lists that have all AVPs that their tables require, and no more.
use Rattle.std.specs.Prelude.{ℕ, Bool, not, ◌&&◌, List}
use Rattle.std.specs.List.{list_all}
use Rattle.dcc_avp.specs.Spelling.{AvpView}
use Rattle.dcc_request.specs.declared.table.Times.{Times}
use Rattle.dcc_request.specs.Tables.{Table, table_of}
use Rattle.dcc_request.specs.Walk.{ListView, GroupView}
use Rattle.dcc_request.specs.Checks.{is_over, is_lacking}

-- of a row's code there are neither too many AVPs nor too few
abbrev pub row_fits : List AvpView → ℕ × Times → Bool
row_fits avps row = not (is_lacking avps row) && not (is_over avps row)

unfoldable pub fits : Table → List AvpView → Bool
fits table avps = list_all (row_fits avps) table

abbrev pub list_fits : ListView → Bool
list_fits list = fits (table_of list.code) list.avps

unfoldable pub group_fits : GroupView → Bool
group_fits group = list_fits group.list && list_all list_fits group.inside

unfoldable pub all_fit : Table → List AvpView → List GroupView → Bool
all_fit table avps groups = fits table avps && list_all group_fits groups
