-- The two layouts that come with the bench, and that they are lawful: their tables pass the test.
use Rattle.std.specs.Prelude.{List, refl}
use Rattle.layouts.specs.Meanings.{Meaning}
use Rattle.layouts.specs.Laws.{Lawful}
use Rattle.layouts.specs.Tables.{meaning_by}
use Rattle.layouts.specs.Tabled.{table_lawful}
use Rattle.layouts.specs.Report.{report_table}
use Rattle.layouts.specs.KeyServer.{key_server_table}
use Rattle.layouts.specs.declared.any.AnyLayout.{AnyLayout}
use Rattle.layouts.specs.declared.any.AnyLayout.TheVariants.{Report, KeyServer}
use Rattle.layouts.specs.declared.table.Line.{Line}

abbrev pub table_of : AnyLayout → List Line
table_of Report = report_table
table_of KeyServer = key_server_table

abbrev pub meaning_of : AnyLayout → Meaning
meaning_of l = meaning_by (table_of l)

pub any_lawful : (l : AnyLayout) → Lawful (meaning_of l)
any_lawful Report = table_lawful report_table refl
any_lawful KeyServer = table_lawful key_server_table refl
