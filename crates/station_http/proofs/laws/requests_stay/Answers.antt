use Rattle.station_http.proofs.Fronts.{front_stays}
use Rattle.station_http.proofs.laws.requests_stay.Goals as goal

pub returns : goal.returns
returns c bytes more requests f = front_stays bytes more requests f
