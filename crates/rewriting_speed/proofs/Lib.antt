mod Desks
