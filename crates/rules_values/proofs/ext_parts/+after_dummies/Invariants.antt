use Rattle.rules_values.proofs.ext_parts.+after_dummies.Given as goal

abbrev pub decreases-after_dummies : goal.decreases-after_dummies
decreases-after_dummies l = l.count
