use Rattle.script_drive.specs.Faults.{goes_ahead}
use Rattle.script_drive.proofs.driving.drive.Given as goal

abbrev pub ghosts-drive_in-S-Name : goal.ghosts-drive_in-S-Name
ghosts-drive_in-S-Name g a = record { table = a.unnamed.table; limits = a.unnamed.limits }

abbrev pub ghosts-drive_in-S-DriveName : goal.ghosts-drive_in-S-DriveName
ghosts-drive_in-S-DriveName g a = record {
  lines = a.script.now.lines;
  patience = a.patience;
  ahead = goes_ahead g.G.Gate.free a.patience;
}
