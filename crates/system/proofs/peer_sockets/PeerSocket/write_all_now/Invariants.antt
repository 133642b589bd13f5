use Rattle.std.proofs.Common.{length, ◌-◌, ◌≤◌}
use Rattle.system.proofs.peer_sockets.PeerSocket.write_all_now.Given as goal

abbrev pub invariant-writes : goal.invariant-writes
invariant-writes l = l.written ≤ length l.bytes

abbrev pub decreases-writes : goal.decreases-writes
decreases-writes l = length l.bytes - l.written
