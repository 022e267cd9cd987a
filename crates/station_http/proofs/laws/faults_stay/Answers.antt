use Rattle.station_http.proofs.Fronts.{session_fault_stays}
use Rattle.station_http.proofs.laws.faults_stay.Goals as goal

pub returns : goal.returns
returns c bytes more requests fault short no_cut s = session_fault_stays bytes more requests fault short no_cut s
