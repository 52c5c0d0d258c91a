use Rattle.evaluator.proofs.evaluate.+are_over.Given as goal

abbrev pub decreases-are_over : goal.decreases-are_over
decreases-are_over l = l.most
