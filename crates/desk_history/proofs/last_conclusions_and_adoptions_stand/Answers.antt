use Rattle.desk_history.proofs.Concluding.{last_conclusion, last_adoption}
use Rattle.desk_history.proofs.last_conclusions_and_adoptions_stand.Goals as goal

pub returns-clause-conclusions : goal.returns-clause-conclusions
returns-clause-conclusions c = last_conclusion

pub returns-clause-adoptions : goal.returns-clause-adoptions
returns-clause-adoptions c = last_adoption
