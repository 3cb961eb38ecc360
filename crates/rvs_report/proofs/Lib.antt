mod Absences
