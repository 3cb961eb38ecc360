mod NormalPlan
