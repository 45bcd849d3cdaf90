use Rattle.book.proofs.Revising.{revised}
use Rattle.book.proofs.words.set_item.Goals as goal

pub returns-clause-revised : goal.returns-clause-revised
returns-clause-revised g c = revised g.F.Field.structure c.args.items c.args.item c.args.word c.args.sheet.now c.requires.item c.requires.few c.requires.word _ _ c.copy_from_slice.ensures.after c.encode.ensures.after
