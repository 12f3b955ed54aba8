use Rattle.examples_text.proofs.LineLaws.{text_found, text_all}
use Rattle.examples_text.proofs.script.text.Goals as goal

pub returns-in-Some : goal.returns-in-Some
returns-in-Some c = text_found c.args.line.now c.in-Some.end c.in-Some.ensures

pub returns-in-None : goal.returns-in-None
returns-in-None c = text_all c.args.line.now c.in-None.ensures
