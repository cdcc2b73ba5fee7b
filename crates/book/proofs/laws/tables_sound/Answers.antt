use Rattle.book.proofs.Tables.{sound_table}
use Rattle.book.proofs.laws.tables_sound.Goals as goal

pub returns : goal.returns
returns c = sound_table
