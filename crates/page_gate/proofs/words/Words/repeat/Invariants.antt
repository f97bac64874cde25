use Rattle.page_gate.proofs.words.Words.repeat.Given as goal

abbrev pub ghosts-repeat_as : goal.ghosts-repeat_as
ghosts-repeat_as a = record { entry = record { page = a.page; sig = a.sig.now } }
